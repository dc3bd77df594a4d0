-- An element of a list, after one more or after another in its place.
use Rattle.std.proofs.Common.{◌≡◌, ℕ, zero, suc, ◌<◌, List, [], ◌∷◌, ◌++◌, length, Some, refl, sym, ap, ◌∙◌, arith}
use Rattle.std.specs.Prelude.{slice_get, slice_set}
use Rattle.std.proofs.lemmas.List.{get_or_append_left, get_or_push, length_push}
use Rattle.std.proofs.lemmas.Option.{slice_get-get_or}

module _ {A : Type 0} where
  pub push_get : (xs : List A) (x : A) (k : ℕ) → k < length xs → slice_get (xs ++ x ∷ []) k ≡ slice_get xs k
  push_get xs x k lt = slice_get-get_or (xs ++ x ∷ []) k x (omega (arith, length_push xs x)) ∙ ap Some (get_or_append_left xs (x ∷ []) x k lt) ∙ sym (slice_get-get_or xs k x lt)

  pub push_last : (xs : List A) (x : A) (k : ℕ) → k ≡ length xs → slice_get (xs ++ x ∷ []) k ≡ Some x
  push_last xs x k at = slice_get-get_or (xs ++ x ∷ []) k x (omega (arith, length_push xs x)) ∙ ap Some (get_or_push xs x x k (sym at))

  pub set_here : (xs : List A) (n : ℕ) (y : A) → n < length xs → slice_get (slice_set xs n y) n ≡ Some y
  set_here [] n y within = absurd (omega arith)
  set_here (x ∷ xs) zero y within = refl
  set_here (x ∷ xs) (suc n) y within = set_here xs n y (omega arith)

  pub set_elsewhere : (xs : List A) (n m : ℕ) (y : A) → (m ≡ n → ⊥) → slice_get (slice_set xs n y) m ≡ slice_get xs m
  set_elsewhere [] n m y apart = refl
  set_elsewhere (x ∷ xs) zero zero y apart = absurd (apart refl)
  set_elsewhere (x ∷ xs) zero (suc m) y apart = refl
  set_elsewhere (x ∷ xs) (suc n) zero y apart = refl
  set_elsewhere (x ∷ xs) (suc n) (suc m) y apart = set_elsewhere xs n m y (λ same. apart (ap suc same))
