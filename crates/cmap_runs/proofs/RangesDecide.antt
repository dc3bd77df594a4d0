-- The ranges of declarations tell which one decides a code; ranges that lie apart are the runs.
use Rattle.std.proofs.Common.{◌≡◌, ℕ, ◌+◌, ◌-◌, ◌*◌, ◌<◌, ◌≤◌, ◌^◌, List, [], ◌∷◌, ◌++◌, length, get_or, Option, refl, sym, ap, ◌∙◌, subst, inl, inr, arith}
use Rattle.std.specs.Prelude.{Some, None, IsSome, All, Any, map, slice_get}
use Rattle.std.specs.List.{Contains, range_with_len}
use Rattle.std.specs.List.Sorted.{IsPermutation, IsNonDecreasingBy}
use Rattle.std.proofs.lemmas.Bool.Decides.{nat_tests}
use Rattle.std.proofs.lemmas.Bool.{cases_lt}
use Rattle.std.proofs.lemmas.List.FromFn.{get_or-range_with_len, length-range_with_len}
use Rattle.std.proofs.lemmas.List.{get_or-map, get_or_default, length-map, length_push}
use Rattle.std.proofs.lemmas.List.Elements.{All-push, Contains-append_left, Contains-push}
use Rattle.std.proofs.lemmas.List.Sorted.{All-permutation, Contains-permutation, IsNonDecreasingBy-push, length_permutation}
use Rattle.std.proofs.lemmas.Option.{get_or_from_slice_get, slice_get_within, slice_get-map, slice_get-get_or}
use Rattle.cmap_runs.specs.DeclaredRanges.{IsRange, AreRanges, AreApart, ArePlacesApart, LieApart, range_at}
use Rattle.cmap_runs.specs.Ranges.{Span, Run, Holds, last_index, runs_of, AreRunsBelow}
use Rattle.cmap_runs.proofs.MaximalRuns.{runs_of-unique}
use Rattle.cmap_runs.proofs.LieApart.{LieApart-ascend}
use Rattle.cmap_runs.proofs.LastIndex.{ContainsAt, IsLast, is_last}

-- ---- one more declaration
pub span_at : {T : Type 0} (span_of : T → Span) (list : List T) (i : ℕ) (d : T) (start end : ℕ)
    → i < length list → d ≡ get_or list i d → start ≡ (span_of d).start → end ≡ (span_of d).end → slice_get (map span_of list) i ≡ Some (record { start = start; end = end })
span_at span_of list i d start end lt is start_is end_is =
    grind (arith, slice_get-map span_of list i, slice_get-get_or list i d lt)

pub AreRanges-skip : (spans : List Span) (i start end : ℕ) (ranges : List Run)
    → AreRanges spans i ranges → slice_get spans i ≡ Some (record { start = start; end = end }) → end < start → AreRanges spans (i + 1) ranges
AreRanges-skip spans i start end ranges are at empty = record {
  each = are.each;
  every = λ index span lt at_index filled.
      elim (cases_lt index i) [
        | inl old ↦ are.every index span old at_index filled
        | inr new ↦ absurd (grind arith)
      ];
  few = omega (arith, are.few);
}

pub AreRanges-push : (spans : List Span) (i start end : ℕ) (ranges : List Run)
    → AreRanges spans i ranges → slice_get spans i ≡ Some (record { start = start; end = end }) → start ≤ end → end < 2 ^ 32
    → AreRanges spans (i + 1) (ranges ++ record { low = start; high = end; index = i } ∷ [])
AreRanges-push spans i start end ranges are at filled fits =
    let range : Run = record { low = start; high = end; index = i } in
    record {
      each = All-push (IsRange spans) ranges range are.each (record { at_index = at; filled = filled; fits = fits });
      every = λ index span lt at_index span_filled.
          elim (cases_lt index i) [
            | inl old ↦ Contains-append_left ranges (range ∷ []) _ (are.every index span old at_index span_filled)
            | inr new ↦
                let here : i ≡ index = omega arith in
                let is : range ≡ record { low = span.start; high = span.end; index = index } = grind arith in
                subst (Contains (ranges ++ range ∷ [])) is (Contains-push ranges range)
          ];
      few = omega (arith, are.few, length_push ranges range);
    }

pub AreRanges-IsPermutation : (spans : List Span) (count : ℕ) (ranges others : List Run) → IsPermutation ranges others → AreRanges spans count ranges → AreRanges spans count others
AreRanges-IsPermutation spans count ranges others moved are = record {
  each = All-permutation (IsRange spans) ranges others moved are.each;
  every = λ index span lt at filled. Contains-permutation ranges others _ moved (are.every index span lt at filled);
  few = omega (arith, are.few, length_permutation ranges others moved);
}

-- ---- a declaration contains a code, and its range holds it
contains_its : (spans : List Span) (range : Run) (code : ℕ) → IsRange spans range → Holds code range → ContainsAt spans code range.index
contains_its spans range code is holds = (record { start = range.low; end = range.high }, is.at_index, grind (arith, nat_tests))

-- the one range at an index
holds_its : (spans : List Span) (range : Run) (code : ℕ) → IsRange spans range → ContainsAt spans code range.index → Holds code range
holds_its spans range code is at = (grind (arith, nat_tests, is.at_index, at.1, at.2), grind (arith, nat_tests, is.at_index, at.1, at.2))

pub holding_range : (spans : List Span) (ranges : List Run) (code index : ℕ)
    → AreRanges spans (length spans) ranges → ContainsAt spans code index → Any (λ range. Holds code range × (range.index ≡ index)) ranges
holding_range spans ranges code index are at =
    let span = at.0 in
    let within : Holds code (record { low = span.start; high = span.end; index = index }) = (grind (arith, nat_tests, at.2), grind (arith, nat_tests, at.2)) in
    let found = are.every index span (slice_get_within spans index span at.1) at.1 (omega (arith, within.0, within.1)) in
    (found.0, record { low = span.start; high = span.end; index = index }, found.1, found.2, (within, refl))

-- ---- ranges that lie apart
apart_later : (ranges : List Run) (i j : ℕ) (d : Run)
    → IsNonDecreasingBy (λ range. range.low) ranges → AreApart ranges → i < j → j < length ranges → (get_or ranges i d).high < (get_or ranges j d).low
apart_later ranges i j d sorted apart before within = omega (arith, apart i d (omega arith), sorted (i + 1) j d (omega arith) within)

decided : (spans : List Span) (ranges : List Run) (i code : ℕ) (d : Run) (o : Option ℕ)
    → AreRanges spans (length spans) ranges → IsNonDecreasingBy (λ range. range.low) ranges → AreApart ranges → i < length ranges
    → Holds code (get_or ranges i d) → IsLast spans code o → o ≡ Some (get_or ranges i d).index
decided spans ranges i code d None are sorted apart within holds last = absurd (last _ (contains_its spans (get_or ranges i d) code (are.each i d within) holds))
decided spans ranges i code d (Some index) are sorted apart within holds last =
    let found = holding_range spans ranges code index are last.0 in
    let is : get_or ranges found.0 d ≡ found.1 = get_or_default ranges found.0 d found.1 found.2 ∙ found.3 in
    let same : i ≡ found.0 = grind (arith, is, found.2, found.4.0, apart_later ranges i found.0 d sorted apart, apart_later ranges found.0 i d sorted apart) in
    ap Some (sym found.4.1 ∙ sym (ap (λ (r : Run). r.index) is) ∙ ap (λ n. (get_or ranges n d).index) (sym same))

found_some : (spans : List Span) (ranges : List Run) (code : ℕ) (o : Option ℕ)
    → AreRanges spans (length spans) ranges → IsLast spans code o → IsSome o → Any (Holds code) ranges
found_some spans ranges code None are last some = absurd (let e = some in cc)
found_some spans ranges code (Some index) are last some =
    let found = holding_range spans ranges code index are last.0 in (found.0, found.1, found.2, found.3, found.4.0)

pub runs_are_ranges : (spans : List Span) (ranges : List Run)
    → AreRanges spans (length spans) ranges → IsNonDecreasingBy (λ range. range.low) ranges → AreApart ranges → AreRunsBelow (last_index spans) (2 ^ 32) ranges
runs_are_ranges spans ranges are sorted apart = record {
  each = λ i d within.
      let range = get_or ranges i d in let is = are.each i d within in
      let its : (code : ℕ) → last_index spans code ≡ Some range.index → Holds code range =
      λ code same. holds_its spans range code is (subst (IsLast spans code) same (is_last spans code)).0
      in
      record {
        filled = is.filled;
        below = is.fits;
        right = λ code low high. decided spans ranges i code d (last_index spans code) are sorted apart within (low, high) (is_last spans code);
        begins = λ code before same. omega (arith, (its code same).0);
        ends = λ below same. omega (arith, (its (range.high + 1) same).1);
      };
  ordered = λ i j d before within. apart_later ranges i j d sorted apart before within;
  complete = λ code below some. found_some spans ranges code (last_index spans code) are (is_last spans code) some;
}

-- ---- ranges at indices
pub is_index : (count : ℕ) (indices : List ℕ) → IsPermutation (range_with_len 0 count) indices → All (λ index. index < count) indices
is_index count indices all =
    All-permutation (λ index. index < count) (range_with_len 0 count) indices all
    (λ k d lt. omega (arith, get_or-range_with_len 0 count k d (omega (arith, length-range_with_len 0 count)), length-range_with_len 0 count))

every_index : (count index : ℕ) (indices : List ℕ) → IsPermutation (range_with_len 0 count) indices → index < count → Contains indices index
every_index count index indices all lt =
    Contains-permutation (range_with_len 0 count) indices index all (index, omega (arith, length-range_with_len 0 count), omega (arith, get_or-range_with_len 0 count index index lt))

-- the range at an index
pub IsRange-at : (spans : List Span) (index : ℕ) → index < length spans → (range_at spans index).low ≤ (range_at spans index).high → (range_at spans index).high < 2 ^ 32 → IsRange spans (range_at spans index)
IsRange-at spans index lt filled fits = record { at_index = slice_get-get_or spans index (record { start = 1; end = 0 }) lt; filled = filled; fits = fits }

range_at_is : (spans : List Span) (index : ℕ) (span : Span) → slice_get spans index ≡ Some span → range_at spans index ≡ record { low = span.start; high = span.end; index = index }
range_at_is spans index span at = ap (λ (s : Span). record { low = s.start; high = s.end; index = index }) (get_or_from_slice_get spans index span (record { start = 1; end = 0 }) at)

-- the ranges at the first indices that aren't empty
pub record RangesAt (spans : List Span) (indices : List ℕ) (count : ℕ) (ranges : List Run) : Type 0 where
  pub each : All (IsRange spans) ranges
  pub every : (k d : ℕ) → k < count → (range_at spans (get_or indices k d)).low ≤ (range_at spans (get_or indices k d)).high → Contains ranges (range_at spans (get_or indices k d))
  pub few : length ranges ≤ count
  pub order : IsNonDecreasingBy (λ range. range.low) ranges
  pub below : All (λ range. (k d : ℕ) → count ≤ k → k < length indices → range.low ≤ (range_at spans (get_or indices k d)).low) ranges

pub RangesAt-none : (spans : List Span) (indices : List ℕ) → RangesAt spans indices 0 []
RangesAt-none spans indices = record { each = λ k d lt. absurd (omega arith); every = λ k d lt. absurd (omega arith); few = omega arith; order = λ i j d le lt. absurd (omega arith); below = λ k d lt. absurd (omega arith) }

pub RangesAt-push : (spans : List Span) (indices : List ℕ) (i d : ℕ) (ranges : List Run)
    → IsNonDecreasingBy (λ index. (range_at spans index).low) indices → i < length indices → RangesAt spans indices i ranges → IsRange spans (range_at spans (get_or indices i d))
    → RangesAt spans indices (i + 1) (ranges ++ range_at spans (get_or indices i d) ∷ [])
RangesAt-push spans indices i d ranges sorted lt are is = let range = range_at spans (get_or indices i d) in record {
  each = All-push (IsRange spans) ranges range are.each is;
  every = λ k e within filled.
      elim (cases_lt k i) [
        | inl old ↦ Contains-append_left ranges (range ∷ []) (range_at spans (get_or indices k e)) (are.every k e old filled)
        | inr new ↦
            let here : i ≡ k = omega arith in
            subst (λ n. Contains (ranges ++ range ∷ []) (range_at spans n)) (get_or_default indices i d e lt ∙ ap (λ n. get_or indices n e) here) (Contains-push ranges range)
      ];
  few = omega (arith, are.few, length_push ranges range);
  order = IsNonDecreasingBy-push (λ range. range.low) ranges range are.order (λ e some. are.below (length ranges - 1) e (omega arith) i d (omega arith) lt);
  below = All-push (λ range. (k e : ℕ) → i + 1 ≤ k → k < length indices → range.low ≤ (range_at spans (get_or indices k e)).low) ranges range
      (λ n r within k e le lt_k. are.below n r within k e (omega arith) lt_k)
      (λ k e le lt_k. omega (arith, sorted i k e (omega arith) lt_k, ap (λ n. (range_at spans n).low) (get_or_default indices i d e lt)));
}

pub RangesAt-skip : (spans : List Span) (indices : List ℕ) (i d : ℕ) (ranges : List Run)
    → i < length indices → RangesAt spans indices i ranges → (range_at spans (get_or indices i d)).high < (range_at spans (get_or indices i d)).low → RangesAt spans indices (i + 1) ranges
RangesAt-skip spans indices i d ranges lt are empty = record {
  each = are.each;
  every = λ k e within filled.
      elim (cases_lt k i) [
        | inl old ↦ are.every k e old filled
        | inr new ↦
            let here : i ≡ k = omega arith in
            let same = ap (range_at spans) (get_or_default indices i d e lt ∙ ap (λ n. get_or indices n e) here) in
            absurd (omega (arith, ap (λ (r : Run). r.low) same, ap (λ (r : Run). r.high) same))
      ];
  few = omega (arith, are.few);
  order = are.order;
  below = λ n r within k e le lt_k. are.below n r within k e (omega arith) lt_k;
}

-- all indices were gone through
pub AreRanges-from_indices : (spans : List Span) (count : ℕ) (indices : List ℕ) (ranges : List Run)
    → IsPermutation (range_with_len 0 count) indices → All (IsRange spans) ranges
    → ((k d : ℕ) → k < length indices → (range_at spans (get_or indices k d)).low ≤ (range_at spans (get_or indices k d)).high → Contains ranges (range_at spans (get_or indices k d)))
    → length ranges ≤ length indices → AreRanges spans count ranges
AreRanges-from_indices spans count indices ranges all each every few = record {
  each = each;
  every = λ index span lt at filled.
      let found = every_index count index indices all lt in
      let is = ap (range_at spans) found.2 ∙ range_at_is spans index span at in
      subst (Contains ranges) is (every found.0 index found.1 (omega (arith, ap (λ (r : Run). r.low) is, ap (λ (r : Run). r.high) is)));
  few = omega (arith, few, length_permutation (range_with_len 0 count) indices all, length-range_with_len 0 count);
}

ranges_of_indices : (spans : List Span) (indices : List ℕ)
    → IsPermutation (range_with_len 0 (length spans)) indices → LieApart (map (range_at spans) indices) → AreRanges spans (length spans) (map (range_at spans) indices)
ranges_of_indices spans indices all lie =
    let at : (k d : ℕ) → k < length indices → get_or (map (range_at spans) indices) k (range_at spans d) ≡ range_at spans (get_or indices k d) = λ k d lt. get_or-map (range_at spans) indices k d (range_at spans d) lt in
    AreRanges-from_indices spans (length spans) indices (map (range_at spans) indices) all
    (λ k d lt.
    let within : k < length indices = omega (arith, length-map indices (range_at spans)) in
    let is = get_or-map (range_at spans) indices k 0 d within in
    let filled = lie.filled k d lt in
    subst (IsRange spans) (sym is)
    (IsRange-at spans (get_or indices k 0) (is_index (length spans) indices all k 0 within)
    (omega (arith, filled.0, ap (λ (r : Run). r.low) is, ap (λ (r : Run). r.high) is)) (omega (arith, filled.1, ap (λ (r : Run). r.high) is))))
    (λ k d lt filled. (k, omega (arith, length-map indices (range_at spans)), get_or-map (range_at spans) indices k d (range_at spans (get_or indices k d)) lt))
    (omega (arith, length-map indices (range_at spans)))

pub runs_at_indices : (spans : List Span) (indices : List ℕ) → ArePlacesApart spans indices → map (range_at spans) indices ≡ runs_of spans
runs_at_indices spans indices are =
    runs_of-unique spans (map (range_at spans) indices)
    (runs_are_ranges spans (map (range_at spans) indices) (ranges_of_indices spans indices are.every are.apart) (LieApart-ascend (map (range_at spans) indices) are.apart) are.apart.apart)

pub few_indices : (spans : List Span) (indices : List ℕ) → ArePlacesApart spans indices → length (map (range_at spans) indices) ≤ 2 * length spans - 1
few_indices spans indices are =
    omega (arith, length-map indices (range_at spans), length_permutation (range_with_len 0 (length spans)) indices are.every, length-range_with_len 0 (length spans))
