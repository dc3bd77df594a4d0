use Rattle.std.specs.List.Sorted.{IsPermutation}
use Rattle.cmap_runs.proofs.runs.indices.move_first_of.Given as goal

abbrev pub invariant-loop-at : goal.invariant-loop-at
invariant-loop-at l = IsPermutation l.initial.parts l.parts
