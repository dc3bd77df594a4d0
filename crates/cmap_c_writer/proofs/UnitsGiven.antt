-- The units of texts that C hands in.
use Rattle.std.proofs.Common.{◌≡◌, ◌<◌, ℕ, List, Some, None, arith, inl, inr, length, suc, zero, false, nat_lt, refl, true, true≢false}
use Rattle.std.proofs.lemmas.Bool.{cases_Bool}
use Rattle.std.proofs.lemmas.Bool.Decides.{nat_tests}
use Rattle.std.proofs.lemmas.Str.{IsUtf8-from_is_utf8, is_utf8-from_IsUtf8}
use Rattle.std.specs.Char.Escape.{encode_utf16}
use Rattle.std.specs.Prelude.{◌==◌, flat_map}
use Rattle.std.specs.Str.{IsUtf8, chars, is_utf8}
use Rattle.cmap_c_writer.specs.Given.{units_given}

pub units_not_utf8 : (text : List ℕ) → (IsUtf8 text → ⊥) → units_given text ≡ None
units_not_utf8 text none = elim (cases_Bool (is_utf8 text)) [ inl is ↦ absurd (none (IsUtf8-from_is_utf8 text is)) | inr not ↦ rw not refl ]

pub units_of_utf8 : (text : List ℕ) → IsUtf8 text → 0 < length text → units_given text ≡ Some (flat_map encode_utf16 (chars text))
units_of_utf8 text is some =
    let filled : nat_lt 0 (length text) ≡ true = grind (arith, nat_tests) in
    rw (is_utf8-from_IsUtf8 text is, filled) refl

pub filled : (count : ℕ) → (count == 0) ≡ false → 0 < count
filled zero same = absurd (true≢false same)
filled (suc n) same = omega arith
