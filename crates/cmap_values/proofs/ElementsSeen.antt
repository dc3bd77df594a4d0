-- What holds of an element of a list, of the list as contracts see it.
use Rattle.std.proofs.Common.{ℕ, ◌<◌, List, get_or, length, map, arith}
use Rattle.std.specs.Prelude.{Any}
use Rattle.std.proofs.lemmas.List.{get_or-map, length-map}

pub any_at : {X E : Type 0} (P : E → Type 0) (seen : X → E) (xs : List X) (i : ℕ) (d : X) → i < length xs → P (seen (get_or xs i d)) → Any P (map seen xs)
any_at P seen xs i d within p = (i, seen (get_or xs i d), omega (arith, within, length-map xs seen), get_or-map seen xs i d (seen (get_or xs i d)) within, p)
