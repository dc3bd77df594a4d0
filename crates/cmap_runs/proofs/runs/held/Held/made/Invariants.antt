use Rattle.cmap_runs.specs.Made.{AreMadeBy}
use Rattle.cmap_runs.proofs.runs.held.Held.made.Given as goal

abbrev pub invariant-loop-index : goal.invariant-loop-index
invariant-loop-index g l = AreMadeBy l.self.runs l.index l.maker
