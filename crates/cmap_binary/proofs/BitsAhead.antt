-- Bits at hand as the last ones of a number.
use Rattle.std.proofs.Common.{◌≡◌, ℕ, zero, suc, ◌+◌, ◌-◌, ◌*◌, ◌/◌, ◌%◌, ◌^◌, ◌<◌, ◌≤◌, List, [], ◌∷◌, ◌++◌, append_assoc, bit_or, length, get_or, take, drop, refl, ap, ◌∙◌, sym, arith}
use Rattle.std.proofs.lemmas.List.{drop-drop, drop_all, drop_at, drop_more, get_or-drop, length-drop, take_all}
use Rattle.std.proofs.lemmas.Nat.{div-mul-add, mod-mul-add, or_shifted}
use Rattle.std.proofs.Math.Pow.{field, mod-mod-pow}
use Rattle.cmap_binary.specs.BitQueues.{Queue, after_held, bits_ahead}
use Rattle.cmap_binary.specs.PrefixWords.{bits, bits_of}
use Rattle.cmap_binary.proofs.BitsOfBytes.{bits-at, bits_of-split, length-bits, length-bits_of}

-- bits below a power of two
bit_of-mod : (n c more : ℕ) → n % 2 ^ (suc more + c) / 2 ^ c % 2 ≡ n / 2 ^ c % 2
bit_of-mod n c more =
    let e : suc more ≡ more + 1 = omega arith in
    ap (λ m. m % 2) (field n (suc more) c) ∙ rw (← e) at (mod-mod-pow (n / 2 ^ c) more 1)

pub bits_of-mod : (count more n : ℕ) → bits_of count (n % 2 ^ (more + count)) ≡ bits_of count n
bits_of-mod zero more n = refl
bits_of-mod (suc c) more n =
    let e : more + suc c ≡ suc more + c = omega arith in
    let split : bits_of (suc c) (n % 2 ^ (suc more + c)) ≡ bits_of (suc c) n = λ i. bit_of-mod n c more i ∷ bits_of-mod c (suc more) n i in
    rw e split

-- ---- the bits of a queue
-- without the next ones
pub ahead_after : (q : Queue) (count : ℕ) → count ≤ q.held → bits_ahead (after_held q count) ≡ drop count (bits_ahead q)
ahead_after q count enough =
    let left = q.held - count in
    let e : count + left ≡ q.held = omega arith in
    let next = bits_of count (q.ahead / 2 ^ left) in
    let split : bits_of q.held q.ahead ≡ next ++ bits_of left q.ahead = rw e at (bits_of-split count left q.ahead) in
    sym (ap (λ bs. drop count (bs ++ bits q.rest)) split ∙ ap (drop count) (append_assoc next (bits_of left q.ahead) (bits q.rest)) ∙ drop_at next _ count (length-bits_of count _))

-- the next eight
pub byte_first : (held n byte : ℕ) → 8 ≤ held → byte ≡ n / 2 ^ (held - 8) % 2 ^ 8 → bits_of held n ≡ bits_of 8 byte ++ bits_of (held - 8) n
byte_first held n byte enough is =
    let left = held - 8 in
    let e : 8 + left ≡ held = omega arith in
    let split : bits_of held n ≡ bits_of 8 (n / 2 ^ left) ++ bits_of left n = rw e at (bits_of-split 8 left n) in
    split ∙ ap (λ bs. bs ++ bits_of left n) (sym (ap (bits_of 8) is ∙ bits_of-mod 8 0 (n / 2 ^ left)))

pub ahead_byte : (q : Queue) (byte : ℕ) → 8 ≤ q.held → byte ≡ q.ahead / 2 ^ (q.held - 8) % 2 ^ 8 → bits_ahead q ≡ bits_of 8 byte ++ bits_ahead (after_held q 8)
ahead_byte q byte enough is =
    let left = bits_of (q.held - 8) q.ahead in
    ap (λ bs. bs ++ bits q.rest) (byte_first q.held q.ahead byte enough is) ∙ append_assoc (bits_of 8 byte) left (bits q.rest)

-- ---- the bits that a reader leaves, of which the slice `left` has the bytes that aren't passed whole
module _ (bytes left : List ℕ) (byte bit : ℕ) (small : bit < 8) (left_is : left ≡ drop ((8 * byte + bit) / 8) bytes) where
  left_from : left ≡ drop byte bytes
  left_from = let e : (8 * byte + bit) / 8 ≡ byte = omega arith in rw e at left_is

  pub queued : 1 ≤ length left → bits_of (8 - bit) (get_or left 0 0) ++ bits (take (length left - 1) (drop 1 left)) ≡ drop (8 * byte + bit) (bits bytes)
  queued some =
      let first : byte + 0 ≡ byte = omega arith in
      let within : byte < length bytes = omega (arith, some, ap length left_from, length-drop byte bytes) in
      let here : get_or left 0 0 ≡ get_or bytes byte 0 = ap (λ bs. get_or bs 0 0) left_from ∙ get_or-drop byte bytes 0 0 ∙ ap (λ i. get_or bytes i 0) first in
      let later : drop 1 left ≡ drop (byte + 1) bytes = ap (drop 1) left_from ∙ drop-drop 1 byte bytes in
      let all : take (length left - 1) (drop 1 left) ≡ drop 1 left = take_all (length left - 1) (drop 1 left) (omega (arith, length-drop 1 left)) in
      ap (λ x. bits_of (8 - bit) x ++ bits (take (length left - 1) (drop 1 left))) here
      ∙ ap (λ bs. bits_of (8 - bit) (get_or bytes byte 0) ++ bits bs) (all ∙ later)
      ∙ sym (bits-at bytes byte bit within (omega arith))

  pub none_queued : left ≡ [] → [] ≡ drop (8 * byte + bit) (bits bytes)
  none_queued none = sym (drop_all (8 * byte + bit) (bits bytes) (omega (arith, ap length (sym left_from ∙ none), length-drop byte bytes, length-bits bytes)))

-- ---- bits after those of a number
pub bits_of-after : (count width n x : ℕ) → x < 2 ^ width → bits_of (count + width) (n * 2 ^ width + x) ≡ bits_of count n ++ bits_of width x
bits_of-after count width n x fits =
    let whole = n * 2 ^ width + x in
    let e : 0 + width ≡ width = omega arith in
    let low : bits_of width (whole % 2 ^ width) ≡ bits_of width whole = rw e at (bits_of-mod width 0 whole) in
    bits_of-split count width whole
    ∙ ap (λ m. bits_of count m ++ bits_of width whole) (div-mul-add n (2 ^ width) x fits)
    ∙ ap (λ bs. bits_of count n ++ bs) (sym low ∙ ap (bits_of width) (mod-mul-add n (2 ^ width) x fits))

-- the same, where bits above a power of two are lost
bits_of-pushed : (count more width n x : ℕ) → x < 2 ^ width → n * 2 ^ width % 2 ^ 64 ≡ n % 2 ^ (more + count) * 2 ^ width → bits_of (count + width) (bit_or (n * 2 ^ width % 2 ^ 64) x) ≡ bits_of count n ++ bits_of width x
bits_of-pushed count more width n x fits shifted =
    let kept = n % 2 ^ (more + count) in
    rw shifted (ap (bits_of (count + width)) (or_shifted kept width x fits) ∙ bits_of-after count width kept x fits ∙ ap (λ bs. bs ++ bits_of width x) (bits_of-mod count more n))

-- a byte more
pub byte_pushed : (count n x : ℕ) → count ≤ 56 → x < 256 → bits_of (count + 8) (bit_or (n * 256 % 2 ^ 64) x) ≡ bits_of count n ++ bits_of 8 x
byte_pushed count n x room fits =
    let e : (56 - count) + count ≡ 56 = omega arith in
    let shifted : n * 256 % 2 ^ 64 ≡ n % 2 ^ 56 * 256 = omega arith in
    bits_of-pushed count (56 - count) 8 n x fits (rw e shifted)

-- four bytes more
pub word_pushed : (count n x : ℕ) → count ≤ 32 → x < 2 ^ 32 → bits_of (count + 32) (bit_or (n * 2 ^ 32 % 2 ^ 64) x) ≡ bits_of count n ++ bits_of 32 x
word_pushed count n x room fits =
    let e : (32 - count) + count ≡ 32 = omega arith in
    let shifted : n * 2 ^ 32 % 2 ^ 64 ≡ n % 2 ^ 32 * 2 ^ 32 = omega arith in
    bits_of-pushed count (32 - count) 32 n x fits (rw e shifted)

-- those of four bytes, as one number
pub bits_of-four : (a b c d : ℕ) → b < 256 → c < 256 → d < 256 → bits_of 32 (((a * 256 + b) * 256 + c) * 256 + d) ≡ bits (a ∷ b ∷ c ∷ d ∷ [])
bits_of-four a b c d two three four =
    bits_of-after 24 8 ((a * 256 + b) * 256 + c) d four
    ∙ ap (λ bs. bs ++ bits_of 8 d) (bits_of-after 16 8 (a * 256 + b) c three ∙ ap (λ bs. bs ++ bits_of 8 c) (bits_of-after 8 8 a b two))

-- a byte of bytes that come after, one by one
pub bytes_pushed : (bytes : List ℕ) (i count n x : ℕ) → i < length bytes → count ≤ 56 → x < 256 → x ≡ get_or bytes i 0
    → bits_of (count + 8) (bit_or (n * 256 % 2 ^ 64) x) ++ bits (drop (i + 1) bytes) ≡ bits_of count n ++ bits (drop i bytes)
bytes_pushed bytes i count n x within room fits is =
    ap (λ bs. bs ++ bits (drop (i + 1) bytes)) (byte_pushed count n x room fits)
    ∙ append_assoc (bits_of count n) (bits_of 8 x) (bits (drop (i + 1) bytes))
    ∙ ap (λ y. bits_of count n ++ bits (y ∷ drop (i + 1) bytes)) is
    ∙ ap (λ bs. bits_of count n ++ bits bs) (sym (drop_more bytes i 0 within))

-- four bytes that come next, at once
pub four_pushed : (bytes : List ℕ) (count n x : ℕ) → 4 ≤ length bytes → count ≤ 32 → x < 2 ^ 32 → get_or bytes 1 0 < 256 → get_or bytes 2 0 < 256 → get_or bytes 3 0 < 256
    → x ≡ get_or bytes 0 0 * 16777216 + get_or bytes 1 0 * 65536 + get_or bytes 2 0 * 256 + get_or bytes 3 0
    → bits_of (count + 32) (bit_or (n * 2 ^ 32 % 2 ^ 64) x) ++ bits (take (length bytes - 4) (drop 4 bytes)) ≡ bits_of count n ++ bits bytes
four_pushed (a ∷ b ∷ c ∷ d ∷ later) count n x enough room fits two three four is =
    let bytes = a ∷ b ∷ c ∷ d ∷ later in
    let all : take (length bytes - 4) later ≡ later = take_all (length bytes - 4) later (omega arith) in
    let stepped : x ≡ ((a * 256 + b) * 256 + c) * 256 + d = omega (arith, is) in
    let joined : bits_of 32 x ≡ bits (a ∷ b ∷ c ∷ d ∷ []) = ap (bits_of 32) stepped ∙ bits_of-four a b c d two three four in
    rw all (
    ap (λ bs. bs ++ bits later) (word_pushed count n x room fits)
    ∙ append_assoc (bits_of count n) (bits_of 32 x) (bits later)
    ∙ ap (λ bs. bits_of count n ++ (bs ++ bits later)) joined
    )
four_pushed (a ∷ b ∷ c ∷ []) count n x enough room fits two three four is = absurd (omega (arith, enough))
four_pushed (a ∷ b ∷ []) count n x enough room fits two three four is = absurd (omega (arith, enough))
four_pushed (a ∷ []) count n x enough room fits two three four is = absurd (omega (arith, enough))
four_pushed [] count n x enough room fits two three four is = absurd (omega (arith, enough))
