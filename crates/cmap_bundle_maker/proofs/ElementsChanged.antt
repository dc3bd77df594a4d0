-- A list of which each element was changed.
use Rattle.std.proofs.Common.{◌≡◌, ℕ, suc, ◌<◌, List, [], ◌∷◌, get_or, length, map, refl, ap, ◌∙◌, arith}

pub all_changed : {X Y : Type 0} (f : X → Y) (g : Y → Y) (xs ys : List X) → length ys ≡ length xs → ((k : ℕ) (d : X) → k < length xs → f (get_or ys k d) ≡ g (f (get_or xs k d))) → map f ys ≡ map g (map f xs)
all_changed f g [] [] same each = refl
all_changed f g [] (y ∷ ys) same each = absurd (omega (arith, same))
all_changed f g (x ∷ xs) [] same each = absurd (omega (arith, same))
all_changed f g (x ∷ xs) (y ∷ ys) same each = ap (λ z. z ∷ map f ys) (each 0 x (omega arith)) ∙ ap (λ zs. g (f x) ∷ zs) (all_changed f g xs ys (omega (arith, same)) (λ k d within. each (suc k) d (omega (arith, within))))
