use Rattle.std.proofs.Common.{◌+◌, ◌-◌, ◌<◌, ◌≤◌, map}
use Rattle.std.specs.Prelude.{All}
use Rattle.cmap_edit.specs.Consecutive.{AreTidyIn, said_in}
use Rattle.cmap_edit.specs.TidyAdded.{IsSaidTo}
use Rattle.cmap_edit.proofs.tidy.consecutive.push_rows.Given as goal

abbrev pub invariant-loop-next : goal.invariant-loop-next
invariant-loop-next g l = let kind = g.C.Consecutive in record {
  tidy : AreTidyIn kind.layout (map kind.seen l.list.items);
  before : All (λ e. (kind.layout.span e).end < l.next) (map kind.seen l.list.items);
  from : l.range.start ≤ l.next;
  to : l.next ≤ l.end + 1;
  said : IsSaidTo l.range.start l.next (λ code. kind.here l.first (code - l.range.start))
      (said_in kind.layout (map kind.seen l.fn.list.items)) (said_in kind.layout (map kind.seen l.list.items));
}

abbrev pub decreases-loop-next : goal.decreases-loop-next
decreases-loop-next g l = l.end + 1 - l.next
