use Rattle.std.proofs.Common.{◌≡◌, ◌+◌, ◌-◌, ◌≤◌, map}
use Rattle.std.specs.Vec.{vec_capacity, vec_len}
use Rattle.cmap_runs.specs.Made.{IsMerged}
use Rattle.cmap_runs.proofs.runs.indices.Apart.add_part.Given as goal

abbrev pub invariant-loop-index : goal.invariant-loop-index
invariant-loop-index g l = record {
  begin : l.part.next ≤ l.index;
  within : l.index ≤ l.part.end;
  len : vec_len l.self.indices ≡ vec_len l.fn.self.indices + (l.index - l.part.next);
  capacity : vec_capacity l.fn.self.indices ≤ vec_capacity l.self.indices;
  merged : IsMerged (map g.T.HasRange.span l.declarations) l.self;
}

abbrev pub decreases-loop-index : goal.decreases-loop-index
decreases-loop-index g l = l.part.end - l.index
