-- Lists of ranges that lie apart: their order, and one more range.
use Rattle.std.proofs.Common.{◌≡◌, ℕ, zero, suc, ◌+◌, ◌-◌, ◌<◌, ◌≤◌, ◌^◌, List, [], ◌∷◌, ◌++◌, length, sym, ap, ◌∙◌, subst, inl, inr, arith}
use Rattle.std.specs.Prelude.{All, map}
use Rattle.std.specs.List.{range_with_len}
use Rattle.std.specs.List.Sorted.{IsNonDecreasingBy}
use Rattle.std.proofs.lemmas.Bool.{cases_lt}
use Rattle.std.proofs.lemmas.List.{get_or_append_left, get_or_push, length_push, map_push}
use Rattle.std.proofs.lemmas.List.Elements.{All-push}
use Rattle.std.proofs.lemmas.List.Sorted.{IsNonDecreasingBy-from_all_adjacent}
use Rattle.cmap_runs.specs.DeclaredRanges.{LieApart, LieApartBefore, range_at}
use Rattle.cmap_runs.specs.Order.{IsInOrder}
use Rattle.cmap_runs.specs.Ranges.{Span, Run}

LieApart-push : (ranges : List Run) (range : Run) → LieApart ranges → range.low ≤ range.high → range.high < 2 ^ 32
    → All (λ other. other.high < range.low) ranges → LieApart (ranges ++ range ∷ [])
LieApart-push ranges range lie filled fits before = record {
  filled = All-push (λ range. (range.low ≤ range.high) × (range.high < 2 ^ 32)) ranges range lie.filled (filled, fits);
  apart = λ i d lt.
      elim (cases_lt (i + 1) (length ranges)) [
        | inl old ↦ grind (arith, lie.apart i d old, get_or_append_left ranges (range ∷ []) d i, get_or_append_left ranges (range ∷ []) d (i + 1))
        | inr new ↦ grind (arith, before i d, length_push ranges range, get_or_append_left ranges (range ∷ []) d i, get_or_push ranges range d (i + 1))
      ];
}

pub LieApartBefore-push : (spans : List Span) (indices : List ℕ) (index code high : ℕ) → LieApartBefore spans indices code
    → code ≤ (range_at spans index).low → (range_at spans index).low ≤ (range_at spans index).high → (range_at spans index).high ≡ high → high < 2 ^ 32
    → LieApartBefore spans (indices ++ index ∷ []) (high + 1)
LieApartBefore-push spans indices index code high are after filled is fits =
    let ranges = map (range_at spans) indices in let range = range_at spans index in
    record {
      apart = subst LieApart (sym (map_push (range_at spans) indices index))
          (LieApart-push ranges range are.apart filled (omega (arith, is)) (λ k d lt. omega (arith, are.before k d lt)));
      before = subst (All (λ (range : Run). range.high < high + 1)) (sym (map_push (range_at spans) indices index))
          (All-push (λ range. range.high < high + 1) ranges range (λ k d lt. omega (arith, are.before k d lt, is)) (omega (arith, is)));
    }

pub LieApartBefore-none : (spans : List Span) → LieApartBefore spans [] 0
LieApartBefore-none spans = record { apart = record { filled = λ k d lt. absurd (omega arith); apart = λ i d lt. absurd (omega arith) }; before = λ k d lt. absurd (omega arith) }

-- they ascend
pub LieApart-ascend : (ranges : List Run) → LieApart ranges → IsNonDecreasingBy (λ range. range.low) ranges
LieApart-ascend ranges lie =
    IsNonDecreasingBy-from_all_adjacent (λ range. range.low) ranges (λ k d lt. omega (arith, lie.apart k d lt, (lie.filled k d (omega arith)).0))

-- ---- numbers in a row
abbrev pub from_to : ℕ → ℕ → List ℕ
from_to first end = range_with_len first (end - first)

range_in_two : (from count more : ℕ) → range_with_len from (count + more) ≡ range_with_len from count ++ range_with_len (from + count) more
range_in_two from zero more = ap (range_with_len from) (let e : 0 + more ≡ more = omega arith in e) ∙ ap (λ n. range_with_len n more) (let e : from ≡ from + 0 = omega arith in e)
range_in_two from (suc count) more =
    ap (range_with_len from) (let e : suc count + more ≡ suc (count + more) = omega arith in e)
    ∙ ap (λ rest. from ∷ rest) (range_in_two (from + 1) count more ∙ ap (λ n. range_with_len (from + 1) count ++ range_with_len n more) (let e : from + 1 + count ≡ from + suc count = omega arith in e))

pub from_to_two : (first middle end : ℕ) → first ≤ middle → middle ≤ end → from_to first end ≡ from_to first middle ++ from_to middle end
from_to_two first middle end le within =
    ap (range_with_len first) (let e : end - first ≡ (middle - first) + (end - middle) = omega arith in e)
    ∙ range_in_two first (middle - first) (end - middle) ∙ ap (λ n. from_to first middle ++ range_with_len n (end - middle)) (let e : first + (middle - first) ≡ middle = omega arith in e)

pub from_to_more : (first index : ℕ) → first ≤ index → from_to first (index + 1) ≡ from_to first index ++ index ∷ []
from_to_more first index le =
    from_to_two first index (index + 1) le (omega arith) ∙ ap (λ n. from_to first index ++ range_with_len index n) (let e : index + 1 - index ≡ 1 = omega arith in e)

-- ---- as runs
pub in_order : (ranges : List Run) → LieApart ranges → IsInOrder ranges
in_order ranges lie = record {
  filled = λ k d lt. (lie.filled k d lt).0;
  apart = λ i j d lt within. omega (arith, lie.apart i d (omega arith), LieApart-ascend ranges lie (i + 1) j d (omega arith) within);
}

pub LieApartBefore-later : (spans : List Span) (indices : List ℕ) (code later : ℕ) → code ≤ later → LieApartBefore spans indices code → LieApartBefore spans indices later
LieApartBefore-later spans indices code later le are = record { apart = are.apart; before = λ k d lt. omega (arith, are.before k d lt, le) }
