use Rattle.std.proofs.Common.{◌≡◌, ◌+◌, ◌-◌, ◌<◌, ◌≤◌, length}
use Rattle.std.specs.List.{AllWithin}
use Rattle.cmap_runs.specs.Ranges.{digits}
use Rattle.cmap_runs.proofs.runs.stretch.ended_before.Given as goal

abbrev pub invariant-loop-low : goal.invariant-loop-low
invariant-loop-low g l = record {
  within : l.high ≤ length l.held.runs;
  order : l.low ≤ l.high;
  before : AllWithin (λ run. run.high < l.code) l.held.runs 0 l.low;
  after : AllWithin (λ run. l.code ≤ run.high) l.held.runs l.high (length l.held.runs);
  bound : l.looks.runs + digits (l.high - l.low) ≤ l.fn.looks.runs + digits (length l.held.runs);
  grows : l.fn.looks.runs ≤ l.looks.runs;
  declarations : l.looks.declarations ≡ l.fn.looks.declarations;
}

abbrev pub decreases-loop-low : goal.decreases-loop-low
decreases-loop-low g l = l.high - l.low
