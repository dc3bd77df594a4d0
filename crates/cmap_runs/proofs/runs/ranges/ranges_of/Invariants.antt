use Rattle.std.proofs.Common.{◌≤◌, length, map}
use Rattle.std.specs.Vec.{vec_capacity}
use Rattle.cmap_runs.specs.DeclaredRanges.{AreRanges}
use Rattle.cmap_runs.proofs.runs.ranges.ranges_of.Given as goal

abbrev pub invariant-loop-index : goal.invariant-loop-index
invariant-loop-index g l = record {
  are : AreRanges (map g.T.HasRange.span l.declarations) l.index l.ranges.items;
  room : length l.declarations ≤ vec_capacity l.ranges;
}
