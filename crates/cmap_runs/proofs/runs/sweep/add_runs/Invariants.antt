use Rattle.std.proofs.Common.{ℕ, ◌+◌, ◌<◌, ◌≤◌, Option, length}
use Rattle.cmap_runs.specs.OpenRanges.{IsGreatest, StayOpen}
use Rattle.cmap_runs.specs.Ranges.{AreRunsBelow}
use Rattle.cmap_runs.proofs.runs.sweep.add_runs.Given as goal

abbrev pub invariant-loop-index : goal.invariant-loop-index
invariant-loop-index l = record {
  order : l.fn.from ≤ l.from;
  limit : l.from ≤ l.to;
  runs : (decides : ℕ → Option ℕ) → ((code : ℕ) → l.fn.from ≤ code → code < l.to → IsGreatest l.fn.ends code (decides code))
      → AreRunsBelow decides l.fn.from l.fn.runs → AreRunsBelow decides l.from l.runs;
  stay : StayOpen l.fn.ends l.ends l.from;
  fewer : length l.ends ≤ length l.fn.ends;
  few : length l.runs + length l.ends ≤ length l.fn.runs + length l.fn.ends;
}

abbrev pub decreases-loop-index : goal.decreases-loop-index
decreases-loop-index l = length l.ends
