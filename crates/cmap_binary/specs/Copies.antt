-- What contracts see of copies of files.
use Rattle.std.specs.Prelude.{ℕ, List, map}
use Rattle.std.specs.Global.{Vec}

abbrev pub copies_seen : List (Vec ℕ) → List (List ℕ)
copies_seen copies = map (λ copy. copy.items) copies
