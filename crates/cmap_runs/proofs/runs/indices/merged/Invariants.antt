use Rattle.std.proofs.Common.{◌+◌, ◌≤◌, map}
use Rattle.std.specs.Vec.{vec_capacity, vec_len}
use Rattle.cmap_runs.specs.Made.{IsMerged}
use Rattle.cmap_runs.specs.Parts.{AreLeft, all_parts, left_of}
use Rattle.cmap_runs.proofs.runs.indices.merged.Given as goal

-- there is room for what is left of the parts
abbrev pub invariant-loop-parts : goal.invariant-loop-parts
invariant-loop-parts g l = record {
  left : AreLeft (all_parts l.parts) l.count;
  merged : IsMerged (map g.T.HasRange.span l.declarations) l.apart;
  room : vec_len l.apart.indices + left_of (all_parts l.parts) ≤ vec_capacity l.apart.indices;
}

abbrev pub decreases-loop-parts : goal.decreases-loop-parts
decreases-loop-parts g l = left_of (all_parts l.parts)
