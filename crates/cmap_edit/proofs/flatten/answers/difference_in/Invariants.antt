use Rattle.std.proofs.Common.{◌+◌, ◌-◌, ◌≤◌}
use Rattle.cmap_values.specs.CodeLengths.{length_of}
use Rattle.cmap_edit.specs.Parts.{HaveSameCids}
use Rattle.cmap_edit.proofs.flatten.answers.difference_in.Given as goal

abbrev pub invariant-loop-next : goal.invariant-loop-next
invariant-loop-next l = record {
  from : l.range.start ≤ l.next;
  to : l.next ≤ l.end + 1;
  same : HaveSameCids l.one l.other (length_of l.len) l.range.start l.next;
}

abbrev pub decreases-loop-next : goal.decreases-loop-next
decreases-loop-next l = l.end + 1 - l.next
