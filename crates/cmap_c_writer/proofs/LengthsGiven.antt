-- The lengths of codes that C hands in.
use Rattle.std.proofs.Common.{◌≡◌, ℕ, Some, inl, inr, sym}
use Rattle.std.specs.Prelude.{◌&&◌, nat_le}
use Rattle.std.proofs.lemmas.Bool.{cases_Bool}
use Rattle.std.proofs.lemmas.Option.{none-some, same_Some}
use Rattle.cmap_c_writer.specs.Given.{length_given}

-- a length is its number of bytes
pub length_same : (len count : ℕ) → Some len ≡ length_given count → len ≡ count
length_same len count is = elim (cases_Bool (nat_le 1 count && nat_le count 4)) [
  | inl fits ↦ same_Some len count (rw fits at is)
  | inr not ↦ absurd (none-some len (sym (rw not at is)))
]
