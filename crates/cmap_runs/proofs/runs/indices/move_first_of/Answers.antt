use Rattle.std.proofs.lemmas.List.Sorted.{IsPermutation-trans}
use Rattle.cmap_runs.proofs.runs.indices.move_first_of.Goals as goal

pub loop-at-preserved : goal.loop-at-preserved
loop-at-preserved c = IsPermutation-trans c.args.parts.now c.loop-at.parts c.swap.new.self c.loop-at.invariant c.swap.ensures.permutation
