-- The first elements of a list, and one more.
use Rattle.std.proofs.Common.{◌≡◌, ◌∙◌, ap, ℕ, ◌+◌, List, [], ◌∷◌, ◌++◌, map, take, Some}
use Rattle.std.specs.Prelude.{slice_get, option_map}
use Rattle.std.proofs.lemmas.List.{take_more}
use Rattle.std.proofs.lemmas.Option.{get_or_from_slice_get, slice_get-map, slice_get_within}

pub take_next : {X : Type 0} (xs : List X) (i : ℕ) (x : X) → slice_get xs i ≡ Some x → take (i + 1) xs ≡ take i xs ++ x ∷ []
take_next xs i x at = take_more xs i x (slice_get_within xs i x at) ∙ ap (λ y. take i xs ++ y ∷ []) (get_or_from_slice_get xs i x x at)

pub take_next-map : {X Y : Type 0} (seen : X → Y) (xs : List X) (i : ℕ) (x : X) → slice_get xs i ≡ Some x → take (i + 1) (map seen xs) ≡ take i (map seen xs) ++ seen x ∷ []
take_next-map seen xs i x at = take_next (map seen xs) i (seen x) (slice_get-map seen xs i ∙ ap (option_map seen) at)
