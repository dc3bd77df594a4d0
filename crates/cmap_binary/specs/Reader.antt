-- Bytes that are read in order, byte by byte or bit by bit.
use Rattle.std.specs.Prelude.{◌≡◌, ℕ, ◌+◌, ◌*◌, ◌/◌, ◌%◌, ◌<◌, ◌^◌, Bool, nat_le, List, length, take, drop, Option, Some, None, option_map, if◌then◌else◌}
use Rattle.cmap_values.specs.BigEndian.{big_endian}
use Rattle.cmap_binary.specs.PrefixWords.{bits}

-- the bytes, and the number of bits that have been taken
pub record Reading : Type 0 where
  pub source : List ℕ
  pub taken : ℕ

abbrev pub bits_left : Reading → List ℕ
bits_left r = drop r.taken (bits r.source)

-- the bytes of which no bit has been taken, if the reader is at a byte boundary
abbrev pub bytes_left : Reading → List ℕ
bytes_left r = drop (r.taken / 8) r.source

-- the reader is at a byte boundary
abbrev pub IsAtByte : Reading → Type 0
IsAtByte r = r.taken % 8 ≡ 0

-- the reader after count more bits
abbrev pub after_bits : Reading → ℕ → Reading
after_bits r count = record { source = r.source; taken = r.taken + count }

abbrev pub after_bytes : Reading → ℕ → Reading
after_bytes r count = after_bits r (8 * count)

-- the first count bytes, if there are that many
abbrev pub front : ℕ → List ℕ → Option (List ℕ)
front count bytes = if nat_le count (length bytes) then Some (take count bytes) else None

-- the big-endian number in the first count bytes, if there are that many
abbrev pub number_at : ℕ → List ℕ → Option ℕ
number_at count bytes = option_map big_endian (front count bytes)

-- calls with the same byte have the same answer
abbrev pub AnswersByByte : (ℕ → Bool → Type 0) → Type 0
AnswersByByte post = (byte : ℕ) (a b : Bool) → byte < 2 ^ 8 → post byte a → post byte b → a ≡ b

-- the answer of a call with a byte is the answer of this test
abbrev pub AnswersBy : (ℕ → Bool → Type 0) → (ℕ → Bool) → Type 0
AnswersBy post p = (byte : ℕ) (answer : Bool) → byte < 2 ^ 8 → post byte answer → answer ≡ p byte
