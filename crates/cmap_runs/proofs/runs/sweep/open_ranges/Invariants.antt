use Rattle.cmap_runs.specs.OpenRanges.{IsSwept}
use Rattle.cmap_runs.proofs.runs.sweep.open_ranges.Given as goal

abbrev pub invariant-loop-range : goal.invariant-loop-range
invariant-loop-range l = IsSwept l.ranges l.range-index l.from l.ends l.runs
