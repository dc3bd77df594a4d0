use Rattle.std.proofs.Common.{◌-◌, ◌≤◌}
use Rattle.cmap_runs.proofs.runs.indices.end_by_steps.Given as goal

abbrev pub invariant-loop-end : goal.invariant-loop-end
invariant-loop-end g l = (l.from ≤ l.end) × (l.end ≤ l.count)

abbrev pub decreases-loop-end : goal.decreases-loop-end
decreases-loop-end g l = l.count - l.end
