-- Two lists with the same texts, and one more element of each.
use Rattle.std.proofs.Common.{◌≡◌, ℕ, ◌+◌, ◌<◌, List, [], ◌∷◌, ◌++◌, length, get_or, map, take, ap, ◌∙◌}
use Rattle.std.proofs.lemmas.List.{map-append, take_more}

-- the lists so far, and the next element of each, have the same texts
pub map-one_more : {X Y : Type 0} (f : X → List ℕ) (g : Y → List ℕ) (xs : List X) (x : X) (ys : List Y) (i : ℕ) (y : Y)
    → map f xs ≡ map g (take i ys) → i < length ys → y ≡ get_or ys i y → f x ≡ g y → map f (xs ++ x ∷ []) ≡ map g (take (i + 1) ys)
map-one_more f g xs x ys i y so_far at next same =
    let left = map-append f xs (x ∷ []) in
    let right = ap (map g) (take_more ys i y at) ∙ map-append g (take i ys) (get_or ys i y ∷ []) in
    let next_text = ap g next in
    cc
