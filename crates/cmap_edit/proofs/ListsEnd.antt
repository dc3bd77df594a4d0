-- The last element of a list, and of what clauses see of a list.
use Rattle.std.proofs.Common.{◌≡◌, ℕ, ◌+◌, ◌-◌, ◌<◌, List, [], ◌∷◌, ◌++◌, Some, length, map, get_or, set, take, sym, ap, ◌∙◌, subst, arith}
use Rattle.std.specs.Prelude.{All, option_map, slice_get}
use Rattle.std.proofs.lemmas.List.{length-map, length-take-le, map-set, set-get_or, take_all, take_more}
use Rattle.std.proofs.lemmas.Option.{get_or_from_slice_get, slice_get_within, slice_get-get_or, slice_get-map}

-- a list with a last element
pub last_split : {X : Type 0} (xs : List X) (last : X) → slice_get xs (length xs - 1) ≡ Some last
    → (front : List X) × (xs ≡ front ++ last ∷ []) × (length front ≡ length xs - 1)
last_split xs last at =
    let lt = slice_get_within xs (length xs - 1) last at in
    let all : take (length xs - 1 + 1) xs ≡ xs = take_all (length xs - 1 + 1) xs (omega arith) in (
      take (length xs - 1) xs,
      sym all ∙ take_more xs (length xs - 1) last lt ∙ ap (λ x. take (length xs - 1) xs ++ x ∷ []) (get_or_from_slice_get xs (length xs - 1) last last at),
      length-take-le (length xs - 1) xs (omega arith),
    )

pub seen_last : {A B : Type 0} (v : A → B) (xs : List A) (n : ℕ) (last : A) → n ≡ length xs → 0 < n → last ≡ get_or xs (n - 1) last
    → slice_get (map v xs) (length (map v xs) - 1) ≡ Some (v last)
seen_last v xs n last count some is =
    let same : length (map v xs) - 1 ≡ n - 1 = omega (arith, length-map xs v) in
    ap (slice_get (map v xs)) same ∙ slice_get-map v xs (n - 1) ∙ ap (option_map v) (slice_get-get_or xs (n - 1) last (omega arith)) ∙ ap (λ x. Some (v x)) (sym is)

pub seen_set : {A B : Type 0} (v : A → B) (xs : List A) (n : ℕ) (y : A) → n ≡ length xs → map v (set xs (n - 1) y) ≡ set (map v xs) (length (map v xs) - 1) (v y)
seen_set v xs n y count =
    let same : n - 1 ≡ length (map v xs) - 1 = omega (arith, length-map xs v) in
    map-set v xs (n - 1) y ∙ ap (λ k. set (map v xs) k (v y)) same

pub seen_none : {A B : Type 0} (v : A → B) (xs : List A) (n : ℕ) (last : B) → n ≡ length xs → (0 < n → ⊥) → slice_get (map v xs) (length (map v xs) - 1) ≡ Some last → ⊥
seen_none v [] n last count none is = absurd cc
seen_none v (x ∷ xs) n last count none is = none (omega arith)

-- of an element that is written back
pub set_back : {A : Type 0} (xs : List A) (i : ℕ) (x : A) → x ≡ get_or xs i x → set xs i x ≡ xs
set_back xs i x is = ap (set xs i) is ∙ set-get_or xs i x

-- what holds of all holds of the last one
pub at_end : {A : Type 0} (P : A → Type 0) (xs : List A) (last : A) → slice_get xs (length xs - 1) ≡ Some last → All P xs → P last
at_end P xs last found all = subst P (get_or_from_slice_get xs (length xs - 1) last last found) (all (length xs - 1) last (slice_get_within xs (length xs - 1) last found))
