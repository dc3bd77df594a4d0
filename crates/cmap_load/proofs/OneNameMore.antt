-- The names that lead to a file: one more, and that one less.
use Rattle.std.proofs.Common.{◌≡◌, ◌+◌, ◌-◌, ap, ◌∙◌, ℕ, List, [], ◌∷◌, ◌++◌, length, length-append, take, arith, refl}

take_front : {A : Type 0} (xs ys : List A) → take (length xs) (xs ++ ys) ≡ xs
take_front [] ys = refl
take_front (x ∷ xs) ys = ap (λ l. x ∷ l) (take_front xs ys)

-- the count of a list that is one longer, less one
less_one : (m n : ℕ) → m ≡ n + 1 → m - 1 ≡ n
less_one m n is = omega (arith, is)

pub names_back : {A : Type 0} (old mid after new : List A) (name : A) → mid ≡ old ++ name ∷ [] → after ≡ mid → new ≡ take (length after - 1) after → new ≡ old
names_back old mid after new name is same rest =
    let whole : after ≡ old ++ name ∷ [] = same ∙ is in
    let count = less_one (length after) (length old) (ap length whole ∙ length-append old (name ∷ [])) in
    rest ∙ ap (take (length after - 1)) whole ∙ ap (λ n. take n (old ++ name ∷ [])) count ∙ take_front old (name ∷ [])
