-- Lists in order.
use Rattle.std.specs.Prelude.{◌≡◌, Bool, true, List, [], ◌∷◌, All, if◌then◌else◌}

-- a list in order with an element at its place; an element that the list contains already isn't added again
abbrev pub placed : {X : Type 0} → (X → X → Bool) → X → List X → List X
placed before x [] = x ∷ []
placed before x (y ∷ ys) = if before x y then x ∷ y ∷ ys else (if before y x then y ∷ placed before x ys else y ∷ ys)

-- the different elements of a list, in order
abbrev pub in_order : {X : Type 0} → (X → X → Bool) → List X → List X
in_order before [] = []
in_order before (x ∷ xs) = placed before x (in_order before xs)

-- ---- private aid
-- each element comes before all later ones
abbrev pub AreInOrder : {X : Type 0} → (X → X → Bool) → List X → Type 0
AreInOrder before [] = Unit {0}
AreInOrder before (x ∷ xs) = All (λ y. before x y ≡ true) xs × AreInOrder before xs
