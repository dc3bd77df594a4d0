-- As many indices as there are declarations, of ranges that lie apart, are the index of each.
use Rattle.std.proofs.Common.{◌≡◌, ℕ, zero, suc, ◌+◌, ◌-◌, ◌<◌, ◌≤◌, true, false, eqb, List, [], ◌∷◌, ◌++◌, length, get_or, sym, ap, ◌∙◌, subst, inl, inr, arith}
use Rattle.std.specs.Prelude.{All, map}
use Rattle.std.specs.List.{Contains, IsDistinct, list_any, range_with_len, remove}
use Rattle.std.specs.List.Sorted.{IsPermutation}
use Rattle.std.proofs.lemmas.Bool.{cases_Bool, eq-eqb, eqb-false, eqb-true, ne_eqb}
use Rattle.std.proofs.lemmas.List.{get_or-map, length-map}
use Rattle.std.proofs.lemmas.List.Elements.{All-contains}
use Rattle.std.proofs.lemmas.List.Sorted.{All-permutation, IsPermutation-append_right, IsPermutation-refl, IsPermutation-remove, IsPermutation-sym, IsPermutation-to_front, IsPermutation-trans, length_permutation}
use Rattle.std.proofs.lemmas.Map.Keys.{IsDistinct-IsPermutation, IsDistinct-from_apart, IsDistinct-tail, apart_from_distinct}
use Rattle.std.proofs.lemmas.Map.Steps.{length-le_from_distinct_below}
use Rattle.std.proofs.lemmas.Map.Views.{Contains-from_any}
use Rattle.cmap_runs.specs.DeclaredRanges.{ArePlacesApart, LieApart, range_at}
use Rattle.cmap_runs.specs.Ranges.{Span, Run}
use Rattle.cmap_runs.proofs.LieApart.{LieApart-ascend, from_to_more}

eqb_flips : (x y : ℕ) → eqb x y ≡ eqb y x
eqb_flips x y =
    elim (cases_Bool (eqb x y)) [
      | inl same ↦ same ∙ sym (eq-eqb y x (sym (eqb-true x y same)))
      | inr other ↦ other ∙ sym (ne_eqb y x (λ same. eqb-false x y other (sym same)))
    ]

-- of n + 1 numbers below n + 1 that differ, one is n
has_last : (n : ℕ) (xs : List ℕ) → IsDistinct eqb xs → All (λ x. x < suc n) xs → length xs ≡ suc n → Contains xs n
has_last n xs distinct below len =
    elim (cases_Bool (list_any (eqb n) xs)) [
      | inl any ↦ Contains-from_any eqb-true n xs any
      | inr none ↦ absurd (omega (
        arith,
        len,
        length-le_from_distinct_below xs n distinct (λ q any.
            let less : q < suc n = All-contains (λ x. x < suc n) xs q below (Contains-from_any eqb-true q xs any) in
            elim (cases_Bool (eqb n q)) [
              | inl same ↦ absurd (let e : false ≡ true = sym none ∙ ap (λ k. list_any (eqb k) xs) (eqb-true n q same) ∙ any in cc)
              | inr other ↦ omega (arith, less, eqb-false n q other)
            ]),
      ))
    ]

all_numbers : (n : ℕ) (xs : List ℕ) → IsDistinct eqb xs → All (λ x. x < n) xs → length xs ≡ n → IsPermutation (range_with_len 0 n) xs
all_numbers zero [] distinct below len = IsPermutation-refl []
all_numbers zero (x ∷ xs) distinct below len = absurd (omega (arith, len))
all_numbers (suc n) xs distinct below len =
    let at = has_last n xs distinct below len in let rest = remove xs at.0 in
    let moved : IsPermutation xs (n ∷ rest) = IsPermutation-remove xs at.0 n at.1 (sym at.2) in
    let apart : IsDistinct eqb (n ∷ rest) = IsDistinct-IsPermutation eqb eqb_flips xs (n ∷ rest) moved distinct in
    let less : All (λ x. x < suc n) (n ∷ rest) = All-permutation (λ x. x < suc n) xs (n ∷ rest) moved below in
    let lower : All (λ x. x < n) rest =
    λ k d within. omega (arith, less (suc k) d (omega arith), eqb-false n (get_or rest k d) (apart_from_distinct eqb (n ∷ rest) 0 (suc k) d apart (omega arith) (omega arith)))
    in
    let others : IsPermutation (range_with_len 0 n) rest = all_numbers n rest (IsDistinct-tail eqb n rest apart) lower (omega (arith, length_permutation xs (n ∷ rest) moved, len)) in
    let last : range_with_len 0 (suc n) ≡ range_with_len 0 n ++ n ∷ [] =
    ap (range_with_len 0) (let e : suc n ≡ n + 1 - 0 = omega arith in e) ∙ from_to_more 0 n (omega arith) ∙ ap (λ k. range_with_len 0 k ++ n ∷ []) (let e : n - 0 ≡ n = omega arith in e)
    in
    subst (λ all. IsPermutation all xs) (sym last)
    (IsPermutation-trans (range_with_len 0 n ++ n ∷ []) (n ∷ range_with_len 0 n) xs (IsPermutation-to_front (range_with_len 0 n) n)
    (IsPermutation-trans (n ∷ range_with_len 0 n) (n ∷ rest) xs (IsPermutation-append_right (n ∷ []) (range_with_len 0 n) rest others) (IsPermutation-sym xs (n ∷ rest) moved)))

-- a range that isn't empty is that of a declaration
filled_within : (spans : List Span) (index : ℕ) → (range_at spans index).low ≤ (range_at spans index).high → index < length spans
filled_within [] index filled = absurd (omega (arith, filled))
filled_within (span ∷ spans) zero filled = omega arith
filled_within (span ∷ spans) (suc index) filled = omega (arith, filled_within spans index filled)

indices_differ : (spans : List Span) (indices : List ℕ) → LieApart (map (range_at spans) indices) → IsDistinct eqb indices
indices_differ spans indices lie =
    let ranges = map (range_at spans) indices in let count = length-map indices (range_at spans) in
    IsDistinct-from_apart eqb indices (λ i j d lt within.
    let e = range_at spans d in
    let is : (k : ℕ) → k < length indices → get_or ranges k e ≡ range_at spans (get_or indices k d) = λ k inside. get_or-map (range_at spans) indices k d e inside in
    let rises : (get_or ranges i e).low < (get_or ranges j e).low =
    omega (arith, (lie.filled i e (omega (arith, count))).0, lie.apart i e (omega (arith, count)), LieApart-ascend ranges lie (i + 1) j e (omega arith) (omega (arith, count)))
    in
    ne_eqb (get_or indices i d) (get_or indices j d) (λ same.
    omega (arith, rises, ap (λ (r : Run). r.low) (is i (omega arith) ∙ ap (range_at spans) same ∙ sym (is j within)))))

pub ArePlacesApart-from_count : (spans : List Span) (indices : List ℕ) → LieApart (map (range_at spans) indices) → length indices ≡ length spans → ArePlacesApart spans indices
ArePlacesApart-from_count spans indices lie count = record {
  every = all_numbers (length spans) indices (indices_differ spans indices lie)
      (λ k d within.
      let e = range_at spans d in let len = length-map indices (range_at spans) in
      let is = get_or-map (range_at spans) indices k d e within in
      filled_within spans (get_or indices k d) (subst (λ (r : Run). r.low ≤ r.high) is (lie.filled k e (omega (arith, len))).0))
      count;
  apart = lie;
}
