use Rattle.std.proofs.Common.{◌≤◌, length, map}
use Rattle.std.specs.Vec.{vec_capacity}
use Rattle.cmap_runs.proofs.RangesDecide.{RangesAt}
use Rattle.cmap_runs.proofs.runs.ranges.ranges_at.Given as goal

abbrev pub invariant-loop-index : goal.invariant-loop-index
invariant-loop-index g l = record {
  are : RangesAt (map g.T.HasRange.span l.declarations) l.index-items l.index-index l.ranges.items;
  room : length l.index-items ≤ vec_capacity l.ranges;
}
