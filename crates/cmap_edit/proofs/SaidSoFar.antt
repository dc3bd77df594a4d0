-- What a list that is made run by run says.
use Rattle.std.proofs.Common.{◌≡◌, ℕ, ◌+◌, ◌<◌, ◌≤◌, false, List, [], ◌∷◌, Option, Some, None, map, refl, sym, ap, ◌∙◌, subst, inl, inr, arith}
use Rattle.std.specs.Prelude.{All, option_map, option_and_then, slice_get}
use Rattle.std.proofs.lemmas.Bool.{cases_lt}
use Rattle.std.proofs.lemmas.List.Elements.{All-head, All-tail, All-weaker}
use Rattle.cmap_layers.proofs.LastFound.{last_of-map}
use Rattle.cmap_runs.specs.Ranges.{Span, contains, last_index}
use Rattle.cmap_runs.specs.Stretches.{IsStretch}
use Rattle.cmap_edit.specs.Tidy.{said, said_with}
use Rattle.cmap_edit.specs.TidyAdded.{SaysSoFar}
use Rattle.cmap_edit.proofs.ListsSaid.{is_after, is_before, is_in}

said_of : {T E X : Type 0} (seen : T → E) (at : E → X) (d : Option T) → option_map at (option_map seen d) ≡ option_map (λ x. at (seen x)) d
said_of seen at None = refl
said_of seen at (Some x) = refl

said_in : {T E X : Type 0} (seen : T → E) (span : E → Span) (at : E → ℕ → X) (table : List T) (first last code : ℕ) (d : Option T)
    → IsStretch (λ x. span (seen x)) table first last d → first ≤ code → code ≤ last → said span at (map seen table) code ≡ option_map (λ x. at (seen x) code) d
said_in seen span at table first last code d same from to =
    ap (option_map (λ e. at e code)) (last_of-map span seen table code ∙ ap (option_map seen) (same code from to)) ∙ said_of seen (λ e. at e code) d

-- of the codes of a stretch a list says what the declaration says that was found
pub said_by : {T E X : Type 0} (seen : T → E) (span : E → Span) (at : E → ℕ → X) (declarations table : List T) (first next last : ℕ) (given found : Option T)
    → declarations ≡ table → first ≡ next → given ≡ found → IsStretch (λ x. span (seen x)) declarations first last given
    → (code : ℕ) → next ≤ code → code ≤ last → said span at (map seen table) code ≡ option_map (λ x. at (seen x) code) found
said_by seen span at declarations table first next last given found same starts is stretch code from to =
    said_in seen span at table next last code found
    (subst (λ n. IsStretch (λ x. span (seen x)) table n last found) starts
    (subst (λ list. IsStretch (λ x. span (seen x)) list first last found) same (subst (IsStretch (λ x. span (seen x)) declarations first last) is stretch))) from to

none_index : (first : Span) (rest : List Span) (code : ℕ) → last_index rest code ≡ None → contains first code ≡ false → last_index (first ∷ rest) code ≡ None
none_index first rest code none out = rw (none, out) refl

none_last : {E : Type 0} (span : E → Span) (xs : List E) (code : ℕ) → All (λ e. (span e).end < code) xs → last_index (map span xs) code ≡ None
none_last span [] code before = refl
none_last span (x ∷ xs) code before =
    none_index (span x) (map span xs) code (none_last span xs code (All-tail (λ e. (span e).end < code) x xs before)) (is_after (span x) code (All-head (λ e. (span e).end < code) x xs before))

-- all declarations end before the code
pub said_none : {E X : Type 0} (span : E → Span) (at : E → ℕ → X) (xs : List E) (code : ℕ) → All (λ e. (span e).end < code) xs → said span at xs code ≡ None
said_none span at xs code before = ap (λ o. option_map (λ e. at e code) (option_and_then (slice_get xs) o)) (none_last span xs code before)

module _ {E X : Type 0} (span : E → Span) (at : E → ℕ → X) (list : List E) where
  -- codes of which nothing is said
  pub passed_over : (next last : ℕ) (new : List E) → SaysSoFar span at list next new → next ≤ last → ((code : ℕ) → next ≤ code → code ≤ last → said span at list code ≡ None) → SaysSoFar span at list (last + 1) new
  passed_over next last new so_far filled none = record {
    before = All-weaker (λ e. (span e).end < next) (λ e. (span e).end < last + 1) (λ e lt. omega arith) new so_far.before;
    said = λ code lt.
        elim (cases_lt code next) [
          | inl old ↦ so_far.said code old
          | inr from ↦
              said_none span at new code (All-weaker (λ e. (span e).end < next) (λ e. (span e).end < code) (λ e lt. omega arith) new so_far.before) ∙ sym (none code from (omega arith))
        ];
  }

  -- codes that are added
  pub added_on : (next last : ℕ) (old new : List E) (here : ℕ → X) → SaysSoFar span at list next old
      → ((code : ℕ) → said span at new code ≡ said_with (record { start = next; end = last }) here (said span at old) code)
      → All (λ e. (span e).end ≤ last) new → ((code : ℕ) → next ≤ code → code ≤ last → said span at list code ≡ Some (here code)) → SaysSoFar span at list (last + 1) new
  added_on next last old new here so_far added ends is = record {
    before = All-weaker (λ e. (span e).end ≤ last) (λ e. (span e).end < last + 1) (λ e le. omega arith) new ends;
    said = λ code lt.
        let now = added code in
        elim (cases_lt code next) [
          | inl before ↦ rw (now, is_before (record { start = next; end = last }) code before) (so_far.said code before)
          | inr from ↦ rw (now, is_in (record { start = next; end = last }) code from (omega arith)) (sym (is code from (omega arith)))
        ];
  }
