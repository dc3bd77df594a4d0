use Rattle.std.proofs.Common.{◌≡◌, ℕ, ◌<◌, get_or, false, []}
use Rattle.std.specs.Prelude.{bytes_eq}
use Rattle.cmap_values.specs.Names.{known_names}
use Rattle.cmap_values.proofs.names.index_of.Given as goal

abbrev pub invariant-loop-index : goal.invariant-loop-index
invariant-loop-index l = (k : ℕ) → k < l.index → bytes_eq (get_or known_names k []) l.text ≡ false
