use Rattle.std.proofs.Common.{◌≡◌, ◌+◌, ◌-◌, ◌≤◌, map}
use Rattle.std.specs.Vec.{vec_capacity, vec_len}
use Rattle.cmap_runs.specs.Made.{AreMerged}
use Rattle.cmap_runs.proofs.runs.indices.Apart.add_to_block.Given as goal

abbrev pub invariant-loop-index : goal.invariant-loop-index
invariant-loop-index g l = record {
  begin : l.first ≤ l.index;
  within : l.index ≤ l.end;
  len : vec_len l.self.indices ≡ vec_len l.fn.self.indices + (l.index - l.first);
  capacity : vec_capacity l.fn.self.indices ≤ vec_capacity l.self.indices;
  blocks : l.self.blocks ≡ l.fn.self.blocks;
  merged : AreMerged (map g.T.HasRange.span l.declarations) l.self.indices.items l.next l.self.blocks.list.items l.self.blocks.most l.self.blocks.begun l.starts;
}

abbrev pub decreases-loop-index : goal.decreases-loop-index
decreases-loop-index g l = l.end - l.index
