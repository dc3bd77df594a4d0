-- A reader some bytes on.
use Rattle.std.proofs.Common.{◌≡◌, ℕ, ◌+◌, ◌*◌, ◌/◌, ◌%◌, ◌<◌, ◌≤◌, List, length, get_or, take, drop, Bool, true, false, Option, Some, None, refl, ap, ◌∙◌, sym, subst, arith, ◌-◌}
use Rattle.std.specs.Borrow.{Bor}
use Rattle.std.specs.Prelude.{MatchOption, nat_le, ◌&&◌, if◌then◌else◌}
use Rattle.std.specs.List.{HoldsAt, slice_get, slice_range}
use Rattle.std.specs.Option.{option_copied}
use Rattle.std.proofs.lemmas.Bool.{le-leb, lt-leb}
use Rattle.std.proofs.lemmas.List.{drop-drop, get_or-drop, length-drop}
use Rattle.std.proofs.lemmas.Option.{cond_some, none-some, slice_get-get_or, slice_get_past}
use Rattle.cmap_values.specs.BigEndian.{big_endian}
use Rattle.cmap_values.specs.CodeLengths.{code_written}
use Rattle.cmap_binary.specs.Reader.{Reading, bytes_left, IsAtByte, after_bytes, number_at}

pub bytes_left-moved : (old : Reading) (count : ℕ) → IsAtByte old → bytes_left (after_bytes old count) ≡ drop count (bytes_left old)
bytes_left-moved old count h =
    let e : (old.taken + 8 * count) / 8 ≡ old.taken / 8 + count = omega arith in
    ap (λ n. drop n old.source) e ∙ sym (drop-drop count (old.taken / 8) old.source)

pub IsAtByte-moved : (old new : Reading) (count : ℕ) → IsAtByte old → new ≡ after_bytes old count → IsAtByte new
IsAtByte-moved old new count h moves = let e : (old.taken + 8 * count) % 8 ≡ 0 = omega arith in rw moves e

-- ---- of a reader that has passed so many bytes, and some bits of the next one
module _ (bytes : List ℕ) (byte bit : ℕ) (small : bit < 8) where
  pub next_byte : (x : ℕ) → byte < length bytes → x ≡ get_or bytes byte 0 → Some x ≡ slice_get (drop ((8 * byte + bit) / 8) bytes) 0
  next_byte x within is =
      let here : (8 * byte + bit) / 8 ≡ byte = omega arith in
      let first : byte + 0 ≡ byte = omega arith in
      rw here (sym (slice_get-get_or (drop byte bytes) 0 0 (omega (arith, length-drop byte bytes)) ∙ ap Some (get_or-drop byte bytes 0 0 ∙ ap (λ i. get_or bytes i 0) first ∙ sym is)))

  pub no_byte : length bytes ≤ byte → None ≡ slice_get (drop ((8 * byte + bit) / 8) bytes) 0
  no_byte past = sym (slice_get_past (drop ((8 * byte + bit) / 8) bytes) 0 (omega (arith, length-drop ((8 * byte + bit) / 8) bytes)))

  pub moved_within : (n : ℕ) → (8 * byte + bit) % 8 ≡ 0 → 8 * byte + bit ≤ 8 * length bytes → n ≤ length (drop ((8 * byte + bit) / 8) bytes) → 8 * (byte + n) + bit ≤ 8 * length bytes
  moved_within n at_byte within fits = omega (arith, length-drop ((8 * byte + bit) / 8) bytes)

-- ---- the number that the next bytes write
module _ (left : List ℕ) (n : ℕ) where
  abbrev number : Option ℕ
  number = if nat_le 1 n && nat_le n 4 then number_at n left else None

  none_of : (test : Bool) (o : Option ℕ) → o ≡ None → None ≡ (if test then o else None)
  none_of true o is = sym is
  none_of false o is = refl

  none_unless : (test : Bool) (x : ℕ × ℕ) → None ≡ (if test then Some x else None) → test ≡ false
  none_unless true x none = absurd (none-some x none)
  none_unless false x none = refl

  pub none_filled : length left < n → None ≡ number
  none_filled short = none_of (nat_le 1 n && nat_le n 4) (number_at n left) (rw (lt-leb n (length left) short) refl)

  module _ (bytes : List ℕ) (size : length bytes + 0 ≡ n) where
    sized : length bytes ≡ n
    sized = omega (arith, size)

    pub none_read : None ≡ code_written bytes → None ≡ number
    none_read written =
        let wrong = none_unless (nat_le 1 (length bytes) && nat_le (length bytes) 4) (length bytes, big_endian bytes) written in
        rw (subst (λ k. (nat_le 1 k && nat_le k 4) ≡ false) sized wrong) refl

    pub number_read : (len value : ℕ) → bytes ≡ slice_range left 0 n → n ≤ length left → Some (len, value) ≡ code_written bytes → Some value ≡ number
    number_read len value is within written =
        let (few, same) = cond_some {A = ℕ × ℕ} (nat_le 1 (length bytes) && nat_le (length bytes) 4) (length bytes, big_endian bytes) (len, value) (sym written) in
        let whole : n - 0 ≡ n = omega arith in
        rw (subst (λ k. (nat_le 1 k && nat_le k 4) ≡ true) sized few, le-leb n (length left) within) (ap Some (sym (ap (λ p. p.1) same) ∙ ap big_endian (is ∙ ap (λ k. take k left) whole)))

-- a byte that is looked up, as its copy
pub byte_at : (bytes : List ℕ) (i : ℕ) (found : Option (Bor ℕ)) → MatchOption found (length bytes ≤ i) (λ byte. (i < length bytes) × HoldsAt (λ y. byte.now ≡ y) bytes i) → (copied : Option ℕ) → copied ≡ option_copied found
    → MatchOption copied (length bytes ≤ i) (λ byte. (i < length bytes) × (byte ≡ get_or bytes i 0))
byte_at bytes i None past copied is = rw is past
byte_at bytes i (Some byte) at copied is = rw is (at.0, at.1 0)
