-- What a search through bytes or through lists as clauses see them tells.
use Rattle.std.proofs.Common.{ℕ, ◌<◌, Bool, true, false, zero, suc, List, [], ◌∷◌, length, map, refl, sym, ◌∙◌, subst, zero-add, arith}
use Rattle.std.specs.Prelude.{◌↔◌, Any, IsTrue, MatchBool}
use Rattle.std.specs.List.{AllWithin, HoldsAt, range_with_len}
use Rattle.std.proofs.lemmas.Bool.{false≢true}
use Rattle.std.proofs.lemmas.List.FromFn.{length-range_with_len, get_or-range_with_len}
-- the bytes of a code
pub use Rattle.cmap_codespaces.proofs.BytesWithin.{byte_at-shifted}

-- ---- an element of a list that clauses see by f
some_seen : {A B : Type 0} (f : A → B) (P : B → Type 0) (xs : List A) (k : ℕ) → k < length xs → HoldsAt (λ x. P (f x)) xs k → Any P (map f xs)
some_seen f P [] k within holds = absurd (omega arith)
some_seen f P (x ∷ xs) zero within holds = (zero, f x, omega arith, refl, holds x)
some_seen f P (x ∷ xs) (suc k) within holds =
    let (j, y, below, is, found) = some_seen f P xs k (omega arith) holds in
    (suc j, y, omega arith, is, found)

none_seen : {A B : Type 0} (f : A → B) (P : B → Type 0) (xs : List A) → AllWithin (λ x. P (f x) → ⊥) xs 0 (length xs) → Any P (map f xs) → ⊥
none_seen f P [] none (k, y, within, is, holds) = omega arith
none_seen f P (x ∷ xs) none (zero, y, within, is, holds) = none zero x (omega arith) (omega arith) (subst P (sym is) holds)
none_seen f P (x ∷ xs) none (suc k, y, within, is, holds) = none_seen f P xs (λ j d low below. none (suc j) d (omega arith) (omega arith)) (k, y, omega arith, is, holds)

-- what an `any` over the list answers
pub any_seen : {A B : Type 0} (f : A → B) (P : B → Type 0) (xs : List A) (answer : Bool) → MatchBool answer ((k : ℕ) × (k < length xs) × HoldsAt (λ x. P (f x)) xs k) (AllWithin (λ x. P (f x) → ⊥) xs 0 (length xs)) → IsTrue answer ↔ Any P (map f xs)
any_seen f P xs true (k, within, holds) = (λ _. some_seen f P xs k within holds, λ _. refl)
any_seen f P xs false none = (λ yes. absurd (false≢true yes), λ some. absurd (none_seen f P xs none some))

-- what an `all` over the numbers below n answers
pub all_below : (P : ℕ → Type 0) (n : ℕ) (answer : Bool) → MatchBool answer (AllWithin P (range_with_len 0 n) 0 (length (range_with_len 0 n))) ((k : ℕ) × (k < length (range_with_len 0 n)) × HoldsAt (λ k. P k → ⊥) (range_with_len 0 n) k)
    → IsTrue answer ↔ ((k : ℕ) → k < n → P k)
all_below P n true all = (λ _ k within. subst P (get_or-range_with_len 0 n k 0 within ∙ zero-add k) (all k 0 (omega arith) (omega (arith, length-range_with_len 0 n))), λ _. refl)
all_below P n false (k, within, fails) =
    let below : k < n = omega (arith, length-range_with_len 0 n) in
    (λ yes. absurd (false≢true yes), λ all. absurd (fails 0 (subst P (sym (get_or-range_with_len 0 n k 0 below ∙ zero-add k)) (all k below))))
