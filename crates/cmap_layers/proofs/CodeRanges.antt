-- Codes as ranges, each as long as can be: how they grow with the limit, and that there is one list of them.
use Rattle.std.proofs.Common.{◌≡◌, ℕ, ◌+◌, ◌-◌, ◌<◌, ◌≤◌, true, false, true≢false, List, [], ◌∷◌, ◌++◌, length, get_or, set, take, refl, sym, ap, ◌∙◌, subst, inl, inr, arith}
use Rattle.std.specs.Prelude.{◌↔◌, Some, Any, slice_get}
use Rattle.std.proofs.lemmas.Bool.Decides.{nat_tests}
use Rattle.std.proofs.lemmas.Bool.{cases_lt, cond_both}
use Rattle.std.proofs.lemmas.List.Elements.{All-nil, All-push, All-pop, All-weaker, Contains-push_cases}
use Rattle.std.proofs.lemmas.List.{get_or_append_left, get_or_push, length_push, length-take-le, take_all, take_more, set_at}
use Rattle.std.proofs.lemmas.List.Quantifiers.{Any-push, all_pairs_push}
use Rattle.std.proofs.lemmas.Option.{get_or_from_slice_get, slice_get_within, slice_get-get_or}
use Rattle.cmap_values.specs.declared.range.Range.{Range}
use Rattle.cmap_runs.proofs.MaximalRuns.{Any-old}
use Rattle.cmap_layers.specs.CodeRanges.{AreRangesOf, IsIn, goes_on, joined}

module _ (Holds : ℕ → Type 0) where
  pub no_codes : AreRangesOf Holds 0 []
  no_codes = record {
    codes = λ code lt. absurd (omega (arith, lt));
    within = All-nil (λ range. (range.start ≤ range.end) × (range.end < 0));
    apart = λ i j d lt within. absurd (omega (arith, within));
  }

  -- no range so far has a code that comes after it
  not_before : (next code : ℕ) (ranges : List Range) → AreRangesOf Holds next ranges → next ≤ code → Any (IsIn code) ranges → ⊥
  not_before next code ranges are from found =
      let ends : found.1.end < next = rw found.3 at (are.within found.0 found.1 found.2).1 in
      omega (arith, found.4.1, ends)

  -- codes for which it doesn't hold
  pub passed_over : (next last : ℕ) (ranges : List Range) → AreRangesOf Holds next ranges → next ≤ last → ((code : ℕ) → next ≤ code → code ≤ last → Holds code → ⊥) → AreRangesOf Holds (last + 1) ranges
  passed_over next last ranges are le none = record {
    codes = λ code lt.
        elim (cases_lt code next) [
          | inl before ↦ are.codes code before
          | inr from ↦ (λ holds. absurd (none code from (omega arith) holds), λ found. absurd (not_before next code ranges are from found))
        ];
    within = All-weaker (λ range. (range.start ≤ range.end) × (range.end < next)) (λ range. (range.start ≤ range.end) × (range.end < last + 1)) (λ range was. (was.0, omega (arith, was.1))) ranges are.within;
    apart = are.apart;
  }

  -- a range that lies apart from those so far
  pushed : (next last : ℕ) (ranges : List Range) (range : Range) → AreRangesOf Holds next ranges → next ≤ last → next ≤ range.start → range.start ≤ range.end → range.end ≤ last
      → ((code : ℕ) → next ≤ code → code ≤ last → (Holds code ↔ IsIn code range)) → ((k : ℕ) (d : Range) → k < length ranges → (get_or ranges k d).end + 1 < range.start) → AreRangesOf Holds (last + 1) (ranges ++ range ∷ [])
  pushed next last ranges range are le starts filled ends here apart = record {
    codes = λ code lt.
        elim (cases_lt code next) [
          | inl before ↦ (
            λ holds. Any-old (IsIn code) ranges range ((are.codes code before).0 holds),
            λ found.
                elim (Contains-push_cases ranges range found.1 (found.0, found.2, found.3)) [
                  | inl old ↦ (are.codes code before).1 (old.0, found.1, old.1, old.2, found.4)
                  | inr same ↦ absurd (let from : range.start ≤ code = rw (← same) at found.4.0 in omega (arith, from))
                ],
          )
          | inr from ↦ (
            λ holds. Any-push (IsIn code) ranges range ((here code from (omega arith)).0 holds),
            λ found.
                elim (Contains-push_cases ranges range found.1 (found.0, found.2, found.3)) [
                  | inl old ↦ absurd (not_before next code ranges are from (old.0, found.1, old.1, old.2, found.4))
                  | inr same ↦ (here code from (omega arith)).1 (rw (← same) at found.4)
                ],
          )
        ];
    within = All-push (λ (r : Range). (r.start ≤ r.end) × (r.end < last + 1)) ranges range
        (All-weaker (λ r. (r.start ≤ r.end) × (r.end < next)) (λ r. (r.start ≤ r.end) × (r.end < last + 1)) (λ r was. (was.0, omega (arith, was.1))) ranges are.within) (filled, omega arith);
    apart = all_pairs_push (λ (r later : Range). r.end + 1 < later.start) ranges range are.apart apart;
  }

  -- without the last range, of codes before it
  without_last : (next : ℕ) (ranges : List Range) (last : Range) → AreRangesOf Holds next (ranges ++ last ∷ []) → (last.start ≤ last.end) × (last.end < next) × AreRangesOf Holds last.start ranges × ((k : ℕ) (d : Range) → k < length ranges → (get_or ranges k d).end + 1 < last.start)
  without_last next ranges last are =
      let is = All-pop (λ (r : Range). (r.start ≤ r.end) × (r.end < next)) _ ranges (Some last) refl are.within in
      let count : length (ranges ++ last ∷ []) ≡ length ranges + 1 = length_push ranges last in
      let before : (k : ℕ) (d : Range) → k < length ranges → (get_or ranges k d).end + 1 < last.start =
      λ k d lt. grind (arith, are.apart k (length ranges) d, get_or_append_left ranges (last ∷ []) d k, get_or_push ranges last d (length ranges) refl) in (
        is.1.0,
        is.1.1,
        record {
          codes = λ code lt. (
            λ holds.
                let found = (are.codes code (omega (arith, is.1.0, is.1.1))).0 holds in
                elim (Contains-push_cases ranges last found.1 (found.0, found.2, found.3)) [
                  | inl old ↦ (old.0, found.1, old.1, old.2, found.4)
                  | inr same ↦ absurd (omega (arith, ap (λ (r : Range). r.start) same, found.4.0))
                ],
            λ found. (are.codes code (omega (arith, is.1.0, is.1.1))).1 (Any-old (IsIn code) ranges last found),
          );
          within = λ k d lt. ((is.0 k d lt).0, omega (arith, before k d lt));
          apart = λ i j d lt within. grind (arith, are.apart i j d lt, get_or_append_left ranges (last ∷ []) d i, get_or_append_left ranges (last ∷ []) d j);
        },
        before,
      )

  -- a range that begins just after the last one
  lengthened : (next last : ℕ) (front : List Range) (was range : Range) → AreRangesOf Holds next (front ++ was ∷ []) → next ≤ last → was.end + 1 ≡ range.start → next ≤ range.start → range.start ≤ range.end → range.end ≤ last
      → ((code : ℕ) → next ≤ code → code ≤ last → (Holds code ↔ IsIn code range)) → AreRangesOf Holds (last + 1) (front ++ (record was { end = range.end }) ∷ [])
  lengthened next last front was range are le on starts filled ends here =
      let (whole, below, earlier, apart) = without_last next front was are in
      let longer : Range = record was { end = range.end } in
      pushed was.start last front longer earlier (omega arith) (omega arith) (omega arith) ends
      (λ code from to.
      elim (cases_lt code next) [
        | inl before ↦ (
          λ holds.
              let found = (are.codes code before).0 holds in
              elim (Contains-push_cases front was found.1 (found.0, found.2, found.3)) [
                | inl old ↦ absurd (not_before was.start code front earlier from (old.0, found.1, old.1, old.2, found.4))
                | inr same ↦ (from, omega arith)
              ],
          λ in_range. (are.codes code before).1 (Any-push (IsIn code) front was (from, omega arith)),
        )
        | inr after ↦ (
          λ holds. let at = (here code after to).0 holds in (from, at.1),
          λ in_range. (here code after to).1 (omega arith, in_range.1),
        )
      ])
      apart

  -- a list with a last element
  last_split : (xs : List Range) (last : Range) → slice_get xs (length xs - 1) ≡ Some last → (front : List Range) × (xs ≡ front ++ last ∷ []) × (length front ≡ length xs - 1)
  last_split xs last at =
      let lt = slice_get_within xs (length xs - 1) last at in
      let all : take (length xs - 1 + 1) xs ≡ xs = take_all (length xs - 1 + 1) xs (omega arith) in (
        take (length xs - 1) xs,
        sym all ∙ take_more xs (length xs - 1) last lt ∙ ap (λ x. take (length xs - 1) xs ++ x ∷ []) (get_or_from_slice_get xs (length xs - 1) last last at),
        length-take-le (length xs - 1) xs (omega arith),
      )

  some_goes_on : (ranges : List Range) (range : Range) → goes_on (slice_get ranges (length ranges - 1)) range ≡ true → length ranges - 1 < length ranges
  some_goes_on [] range on = absurd (true≢false (sym on))
  some_goes_on (first ∷ rest) range on = omega arith

  joined_on : (next last : ℕ) (ranges : List Range) (was range : Range) → slice_get ranges (length ranges - 1) ≡ Some was → goes_on (Some was) range ≡ true → AreRangesOf Holds next ranges → next ≤ last → next ≤ range.start
      → range.start ≤ range.end → range.end ≤ last → ((code : ℕ) → next ≤ code → code ≤ last → (Holds code ↔ IsIn code range)) → AreRangesOf Holds (last + 1) (set ranges (length ranges - 1) (record was { end = range.end }))
  joined_on next last ranges was range at on are le starts filled ends here =
      let longer : Range = record was { end = range.end } in
      let split = last_split ranges was at in
      let follows : was.end + 1 ≡ range.start = grind (arith, nat_tests) in
      subst (AreRangesOf Holds (last + 1))
      (sym (ap (λ rs. set rs (length split.0) longer) split.1 ∙ set_at split.0 was [] longer (length split.0) refl) ∙ ap (λ n. set ranges n longer) split.2)
      (lengthened next last split.0 was range (subst (AreRangesOf Holds next) split.1 are) le follows starts filled ends here)

  -- the ranges before one that doesn't begin just after the last one
  all_apart : (next : ℕ) (ranges : List Range) (range : Range) → AreRangesOf Holds next ranges → next ≤ range.start → goes_on (slice_get ranges (length ranges - 1)) range ≡ false → (k : ℕ) (d : Range) → k < length ranges → (get_or ranges k d).end + 1 < range.start
  all_apart next ranges range are starts off k d lt =
      elim (cases_lt (k + 1) (length ranges)) [
        | inl more ↦ omega (arith, are.apart k (k + 1) d (omega arith) more, are.within (k + 1) d more)
        | inr none ↦
            let at : slice_get ranges (length ranges - 1) ≡ Some (get_or ranges k d) = ap (slice_get ranges) (let last : length ranges - 1 ≡ k = omega arith in last) ∙ slice_get-get_or ranges k d lt in
            let ends : goes_on (Some (get_or ranges k d)) range ≡ false = rw at at off in
            let below = are.within k d lt in
            grind (arith, nat_tests)
      ]

  pub added : (next last : ℕ) (ranges : List Range) (range : Range) → AreRangesOf Holds next ranges → next ≤ last → next ≤ range.start → range.start ≤ range.end → range.end ≤ last
      → ((code : ℕ) → next ≤ code → code ≤ last → (Holds code ↔ IsIn code range)) → AreRangesOf Holds (last + 1) (joined ranges range)
  added next last ranges range are le starts filled ends here =
      cond_both (goes_on (slice_get ranges (length ranges - 1)) range) _ _ (AreRangesOf Holds (last + 1)) (λ on.
      let was = get_or ranges (length ranges - 1) range in
      let at : slice_get ranges (length ranges - 1) ≡ Some was = slice_get-get_or ranges (length ranges - 1) range (some_goes_on ranges range on) in
      joined_on next last ranges was range at (rw at at on) are le starts filled ends here)
      (λ off. pushed next last ranges range are le starts filled ends here (all_apart next ranges range are starts off))
