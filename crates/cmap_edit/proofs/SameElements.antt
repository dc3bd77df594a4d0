-- Lists with the same elements, each once, by what f shows of them.
use Rattle.std.proofs.Common.{Ordering, Less, ◌≡◌, ℕ, zero, suc, ◌<◌, Bool, true, true≢false, List, [], ◌∷◌, Contains, IsPermutation, get_or, length, map, refl, sym, ap, ◌∙◌, subst, arith}
use Rattle.std.specs.Prelude.{◌≢◌, AllPairs, Any}
use Rattle.std.specs.Cmp.{IsTotalOrder}
use Rattle.std.specs.List.{AllByRecursion, dedup}
use Rattle.std.specs.List.Sorted.{IsSorted, IsStrictlySortedBy}
use Rattle.std.specs.Ordering.{eq_by_cmp, is_eq, on}
use Rattle.std.proofs.lemmas.Cmp.{on_total, tied_itself}
use Rattle.std.proofs.lemmas.List.Kept.{Any-dedup, Contains-from_dedup, IsStrictlySortedBy-dedup}
use Rattle.std.proofs.lemmas.Map.Keys.{sorted_head, sorted_tail}
use Rattle.std.proofs.lemmas.List.Sorted.{Contains-permutation, IsPermutation-map, IsPermutation-sym}
use Rattle.std.specs.Cmp.{IsEquivalence}
use Rattle.cmap_edit.specs.Parts.{AreEachOnce, HasSame}
use Rattle.cmap_edit.proofs.AnyElements.{Any-nil}

module _ {X Y : Type 0} (f : X → Y) where
  from_map : (xs : List X) (y : Y) → Contains (map f xs) y → Any (λ x. f x ≡ y) xs
  from_map [] y (k, within, is) = absurd (omega (arith, within))
  from_map (x ∷ xs) y (zero, within, is) = (0, x, omega arith, refl, is)
  from_map (x ∷ xs) y (suc k, within, is) = let (j, z, lt, same, holds) = from_map xs y (k, omega (arith, within), is) in (suc j, z, omega (arith, lt), same, holds)

  to_map : (xs : List X) (y : Y) → Any (λ x. f x ≡ y) xs → Contains (map f xs) y
  to_map [] y any = absurd (Any-nil (λ x. f x ≡ y) any)
  to_map (x ∷ xs) y (zero, z, lt, is, holds) = (0, omega arith, ap f is ∙ holds)
  to_map (x ∷ xs) y (suc k, z, lt, is, holds) = let (j, within, same) = to_map xs y (k, z, omega (arith, lt), is, holds) in (suc j, omega (arith, within), same)

-- lists in order, in which no element shows the same as its neighbour
module _ {X Y : Type 0} (f : X → Y) {R : Y → Y → Ordering} (o : IsTotalOrder R) {E : X → X → Bool} (e : IsEquivalence E) (ties : (x y : X) → E x y ≡ eq_by_cmp (on f R) x y) (exact : (x y : X) → E x y ≡ true → f x ≡ f y) where
  same_elements : (xs : List X) → HasSame (map f xs) (map f (dedup E xs))
  same_elements xs y = (kept, found) where
    kept : Contains (map f xs) y → Contains (map f (dedup E xs)) y
    kept there =
        let (k, x, lt, is, shows) = from_map f xs y there in let (j, z, within, same, equal) = Any-dedup e xs x (k, lt, is) in
        to_map f (dedup E xs) y (j, z, within, same, sym (exact x z equal) ∙ shows)

    found : Contains (map f (dedup E xs)) y → Contains (map f xs) y
    found there =
        let (k, x, lt, is, shows) = from_map f (dedup E xs) y there in let (j, within, same) = Contains-from_dedup E xs x (k, lt, is) in
        to_map f xs y (j, x, within, same, shows)

  not_below : (x z : X) → on f R x z ≡ Less → f x ≡ f z → ⊥
  not_below x z less same = true≢false (sym (ap is_eq (tied_itself o (f z))) ∙ ap is_eq (ap (λ y. R y (f z)) (sym same)) ∙ ap is_eq less)

  apart : (x : X) (xs : List X) (j : ℕ) (d : Y) → AllByRecursion (λ z. on f R x z ≡ Less) xs → j < length (map f xs) → f x ≡ get_or (map f xs) j d → ⊥
  apart x [] j d below within same = omega (arith, within)
  apart x (z ∷ zs) zero d below within same = not_below x z below.0 same
  apart x (z ∷ zs) (suc j) d below within same = apart x zs j d below.1 (omega (arith, within)) same

  distinct : (xs : List X) → IsStrictlySortedBy (on f R) xs → AllPairs (λ y later. y ≢ later) (map f xs)
  distinct [] up i j d lt within = absurd (omega (arith, within))
  distinct (x ∷ xs) up i zero d lt within = absurd (omega (arith, lt))
  distinct (x ∷ xs) up zero (suc j) d lt within = apart x xs j d (sorted_head (on f R) x xs up) (omega (arith, within))
  distinct (x ∷ xs) up (suc i) (suc j) d lt within = distinct xs (sorted_tail (on f R) x xs up) i j d (omega (arith, lt)) (omega (arith, within))

  same_ordered : (xs ys zs : List Y) → IsPermutation xs ys → HasSame ys zs → HasSame xs zs
  same_ordered xs ys zs order same = λ x. (λ there. (same x).0 (Contains-permutation xs ys x order there), λ there. Contains-permutation ys xs x (IsPermutation-sym xs ys order) ((same x).1 there))

  pub each_once : (all ordered once : List X) → IsPermutation all ordered → IsSorted (on f R) ordered → once ≡ dedup E ordered → AreEachOnce (map f all) (map f once)
  each_once all ordered once permuted up is =
      subst (λ once. AreEachOnce (map f all) (map f once)) (sym is) (record {
        same = same_ordered (map f all) (map f ordered) (map f (dedup E ordered)) (IsPermutation-map f all ordered permuted) (same_elements ordered);
        once = distinct (dedup E ordered) (IsStrictlySortedBy-dedup (on_total f o) ties ordered up);
      })
