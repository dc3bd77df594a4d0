use Rattle.cmap_codespaces.specs.CodesWithin.{IsLeast}
use Rattle.cmap_layers.proofs.CodesInside.{IsInsideFirst}
use Rattle.cmap_layers.proofs.codespaces.shortest_of_all.Given as goal

abbrev pub invariant-loop-layer : goal.invariant-loop-layer
invariant-loop-layer l = IsLeast (IsInsideFirst l.text l.layers l.layer-index) l.shortest
