-- Tidy lists with one more declaration at the end, or whose last one goes on.
use Rattle.std.proofs.Common.{◌≡◌, ℕ, ◌+◌, ◌-◌, ◌<◌, ◌≤◌, List, [], ◌∷◌, ◌++◌, Some, length, get_or, set, refl, sym, ap, ◌∙◌, subst, inl, inr, arith}
use Rattle.std.specs.Prelude.{All, AllPairs, slice_get}
use Rattle.std.proofs.lemmas.Bool.{cases_lt}
use Rattle.std.proofs.lemmas.List.Elements.{All-push, All-pop, All-weaker}
use Rattle.std.proofs.lemmas.List.{get_or_append_left, get_or_push, length_push, set_at}
use Rattle.std.proofs.lemmas.List.Quantifiers.{all_pairs_push}
use Rattle.std.proofs.lemmas.Option.{get_or_from_slice_get, slice_get_within, slice_get-get_or}
use Rattle.cmap_runs.specs.Ranges.{Span}
use Rattle.cmap_edit.specs.Tidy.{AreTidy}
use Rattle.cmap_edit.specs.TidyAdded.{AddsRow, AreMerged}
use Rattle.cmap_edit.proofs.ListsEnd.{last_split}
use Rattle.cmap_edit.proofs.ListsSaid.{said_pushed, said_went_on}

pairs_pop : {X : Type 0} (R : X → X → Type 0) (front : List X) (last : X) → AllPairs R (front ++ last ∷ []) → AllPairs R front × ((k : ℕ) (d : X) → k < length front → R (get_or front k d) last)
pairs_pop R front last pairs =
    let count : length (front ++ last ∷ []) ≡ length front + 1 = length_push front last in (
      λ i j d lt within. subst (λ x. R x (get_or front j d)) (get_or_append_left front (last ∷ []) d i (omega arith))
          (subst (R (get_or (front ++ last ∷ []) i d)) (get_or_append_left front (last ∷ []) d j within) (pairs i j d lt (omega arith))),
      λ k d lt. subst (λ x. R x last) (get_or_append_left front (last ∷ []) d k lt)
          (subst (R (get_or (front ++ last ∷ []) k d)) (get_or_push front last d (length front) refl) (pairs k (length front) d lt (omega arith))),
    )

module _ {E X : Type 0} (span : E → Span) (at : E → ℕ → X) (IsRow : E → Type 0) (CouldBeOne : E → E → Type 0) (merge : E → E → E) (kind : AreMerged span at IsRow CouldBeOne merge) where
  tidy_pushed : (old : List E) (row : E) → AreTidy span IsRow CouldBeOne old → All (λ e. (span e).end < (span row).start) old → IsRow row
      → ((k : ℕ) (d : E) → k < length old → CouldBeOne (get_or old k d) row → ⊥) → AreTidy span IsRow CouldBeOne (old ++ row ∷ [])
  tidy_pushed old row tidy after is apart = record {
    rows = All-push IsRow old row tidy.rows is;
    apart = all_pairs_push (λ e later. (span e).end < (span later).start) old row tidy.apart after;
    joined = all_pairs_push (λ e later. CouldBeOne e later → ⊥) old row tidy.joined apart;
  }

  -- if the last one couldn't be one with the row, none could
  none_could : (old : List E) (row : E) → AreTidy span IsRow CouldBeOne old → All (λ e. (span e).end < (span row).start) old
      → ((last : E) → slice_get old (length old - 1) ≡ Some last → CouldBeOne last row → ⊥) → (k : ℕ) (d : E) → k < length old → CouldBeOne (get_or old k d) row → ⊥
  none_could old row tidy after apart k d lt one =
      elim (cases_lt (k + 1) (length old)) [
        | inl more ↦
            let next = get_or old (k + 1) d in
            omega (arith, kind.meets (get_or old k d) row one, kind.filled next (tidy.rows (k + 1) d more), tidy.apart k (k + 1) d (omega arith) more, after (k + 1) d more)
        | inr none ↦
            apart (get_or old k d) (ap (slice_get old) (let last : length old - 1 ≡ k = omega arith in last) ∙ slice_get-get_or old k d lt) one
      ]

  pub row_pushed : (old : List E) (row : E) → AreTidy span IsRow CouldBeOne old → All (λ e. (span e).end < (span row).start) old → IsRow row
      → ((last : E) → slice_get old (length old - 1) ≡ Some last → CouldBeOne last row → ⊥) → AddsRow span at IsRow CouldBeOne old row (old ++ row ∷ [])
  row_pushed old row tidy after is apart = record {
    tidy = tidy_pushed old row tidy after is (none_could old row tidy after apart);
    said = said_pushed span at old row;
    last = All-push (λ e. (span e).end ≤ (span row).end) old row
        (All-weaker (λ e. (span e).end < (span row).start) (λ e. (span e).end ≤ (span row).end) (λ e before. omega (arith, before, kind.filled row is)) old after) (omega arith);
  }

  went_on_split : (front : List E) (last row : E) → AreTidy span IsRow CouldBeOne (front ++ last ∷ []) → (span last).end < (span row).start → IsRow row → CouldBeOne last row
      → AddsRow span at IsRow CouldBeOne (front ++ last ∷ []) row (front ++ merge last row ∷ [])
  went_on_split front last row tidy after is one =
      let rows = All-pop IsRow _ front (Some last) refl tidy.rows in
      let apart = pairs_pop (λ e later. (span e).end < (span later).start) front last tidy.apart in
      let joined = pairs_pop (λ e later. CouldBeOne e later → ⊥) front last tidy.joined in
      let spans = kind.spans last row in
      let starts : (span (merge last row)).start ≡ (span last).start = ap (λ (s : Span). s.start) spans in
      let ends : (span (merge last row)).end ≡ (span row).end = ap (λ (s : Span). s.end) spans in
      let filled = kind.filled last rows.1 in
      let filled_too = kind.filled row is in
      record {
        tidy = tidy_pushed front (merge last row) (record { rows = rows.0; apart = apart.0; joined = joined.0 })
            (λ k d lt. omega (arith, apart.1 k d lt, starts)) (kind.row last row rows.1 is one)
            (λ k d lt could. joined.1 k d lt (kind.before (get_or front k d) last row could));
        said = said_went_on span at front last row (merge last row) filled (kind.meets last row one) spans
            (λ code from to. kind.old last row code) (λ code from to. kind.new last row code rows.1 is one from to) filled_too;
        last = All-push (λ e. (span e).end ≤ (span row).end) front (merge last row)
            (λ k d lt. omega (arith, apart.1 k d lt, after, filled, filled_too)) (omega (arith, ends));
      }

  pub row_went_on : (old : List E) (last row : E) → AreTidy span IsRow CouldBeOne old → All (λ e. (span e).end < (span row).start) old → IsRow row
      → slice_get old (length old - 1) ≡ Some last → CouldBeOne last row → AddsRow span at IsRow CouldBeOne old row (set old (length old - 1) (merge last row))
  row_went_on old last row tidy after is found one =
      let split = last_split old last found in
      let lt = slice_get_within old (length old - 1) last found in
      let before : (span last).end < (span row).start = subst (λ e. (span e).end < (span row).start) (get_or_from_slice_get old (length old - 1) last last found) (after (length old - 1) last lt) in
      let there : set old (length old - 1) (merge last row) ≡ split.0 ++ merge last row ∷ [] =
      ap (λ n. set old n (merge last row)) (sym split.2) ∙ ap (λ xs. set xs (length split.0) (merge last row)) split.1 ∙ set_at split.0 last [] (merge last row) (length split.0) refl in
      subst (AddsRow span at IsRow CouldBeOne old row) (sym there)
      (subst (λ xs. AddsRow span at IsRow CouldBeOne xs row (split.0 ++ merge last row ∷ [])) (sym split.1)
      (went_on_split split.0 last row (subst (AreTidy span IsRow CouldBeOne) split.1 tidy) before is one))
