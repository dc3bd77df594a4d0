use Rattle.std.proofs.Common.{◌-◌, ◌≡◌, ◌+◌, ◌<◌, ◌≤◌, length}
use Rattle.std.specs.List.{AllWithin}
use Rattle.cmap_runs.specs.Ranges.{digits}
use Rattle.cmap_runs.proofs.runs.search.find_among_last.Given as goal

-- as many more may be looked at as the number of what is left has digits
abbrev pub invariant-loop-low : goal.invariant-loop-low
invariant-loop-low g l = record {
  within : l.high ≤ length l.held.runs;
  below : AllWithin (λ run. run.high < l.code) l.held.runs 0 l.low;
  above : AllWithin (λ run. l.code < run.low) l.held.runs l.high (length l.held.runs);
  most : l.looks.runs + digits (l.high - l.low) ≤ l.fn.looks.runs + digits (length l.held.runs);
  grows : l.fn.looks.runs ≤ l.looks.runs;
  declarations : l.looks.declarations ≡ l.fn.looks.declarations;
}

abbrev pub decreases-loop-low : goal.decreases-loop-low
decreases-loop-low g l = l.high - l.low
