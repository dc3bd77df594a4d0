use Rattle.std.proofs.Common.{◌≡◌, ◌-◌, ◌≤◌, ◌<◌, take}
use Rattle.std.specs.Prelude.{IfSome}
use Rattle.cmap_encode.specs.ChoicesSeen.{choices_of}
use Rattle.cmap_encode.specs.TreeSeen.{node_of}
use Rattle.cmap_encode.specs.Ways.{AreWays}
use Rattle.cmap_encode.proofs.WaysFound.{IsBestBelow}
use Rattle.cmap_encode.proofs.ways.best_way.Given as goal

abbrev pub invariant-loop-taken : goal.invariant-loop-taken
invariant-loop-taken l = record {
  best : AreWays (choices_of l.choices) l.text l.ways → IsBestBelow (choices_of l.choices) l.text l.taken l.best;
  node : l.node ≡ node_of l.choices.index.tree (take (l.taken - 1) l.text);
  inside : IfSome l.best (λ way. (1 ≤ way.taken) × (way.taken < l.taken));
}
