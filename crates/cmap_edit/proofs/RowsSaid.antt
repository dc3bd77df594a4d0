-- What a list says once the rows of a range were added to it, one after another.
use Rattle.std.proofs.Common.{◌≡◌, ℕ, ◌+◌, ◌<◌, ◌≤◌, true, false, Option, Some, refl, ap, inl, inr, arith}
use Rattle.std.specs.Prelude.{◌&&◌, nat_le, nat_lt, if◌then◌else◌}
use Rattle.std.proofs.lemmas.Bool.Decides.{nat_tests}
use Rattle.std.proofs.lemmas.Bool.{cases_lt}
use Rattle.cmap_runs.specs.Ranges.{contains}
use Rattle.cmap_edit.specs.TidyAdded.{IsSaidTo}
use Rattle.cmap_edit.proofs.ListsSaid.{is_after, is_before, is_in}

between : (first next code : ℕ) → first ≤ code → code < next → (nat_le first code && nat_lt code next) ≡ true
between first next code from to = grind (arith, nat_tests)

earlier : (first next code : ℕ) → code < first → (nat_le first code && nat_lt code next) ≡ false
earlier first next code before = grind (arith, nat_tests)

later : (first next code : ℕ) → next ≤ code → (nat_le first code && nat_lt code next) ≡ false
later first next code after = grind (arith, nat_tests)

module _ {X : Type 0} (here : ℕ → X) (before : ℕ → Option X) where
  -- one row more
  pub row_said : (first next end : ℕ) (mid now : ℕ → Option X) (row : ℕ → X) → first ≤ next → next ≤ end → IsSaidTo first next here before mid
      → ((code : ℕ) → now code ≡ (if contains (record { start = next; end = end }) code then Some (row code) else mid code))
      → ((code : ℕ) → next ≤ code → code ≤ end → row code ≡ here code) → IsSaidTo first (end + 1) here before now
  row_said first next end mid now row from filled old new same code =
      let is = new code in
      let was = old code in
      elim (cases_lt code next) [
        | inl lt ↦
            let out = is_before (record { start = next; end = end }) code lt in
            elim (cases_lt code first) [
              | inl sooner ↦ rw (is, out, was, earlier first next code sooner, earlier first (end + 1) code sooner) refl
              | inr after ↦ rw (is, out, was, between first next code after lt, between first (end + 1) code after (omega arith)) refl
            ]
        | inr after ↦
            elim (cases_lt end code) [
              | inl past ↦ rw (is, is_after (record { start = next; end = end }) code past, was, later first next code after, later first (end + 1) code (omega arith)) refl
              | inr within ↦ rw (is, is_in (record { start = next; end = end }) code after within, between first (end + 1) code (omega arith) (omega arith)) (ap Some (same code after within))
            ]
      ]
