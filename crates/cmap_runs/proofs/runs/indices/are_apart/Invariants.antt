use Rattle.std.proofs.Common.{map, take}
use Rattle.cmap_runs.specs.DeclaredRanges.{LieApartBefore}
use Rattle.cmap_runs.proofs.runs.indices.are_apart.Given as goal

abbrev pub invariant-loop-index : goal.invariant-loop-index
invariant-loop-index g l = LieApartBefore (map g.T.HasRange.span l.declarations) (take l.index-index l.indices) l.from
