use Rattle.std.proofs.Common.{◌≡◌, ◌-◌, ◌≤◌, Some, None, take}
use Rattle.cmap_encode.specs.Alike.{first_given}
use Rattle.cmap_encode.specs.ChoicesSeen.{owned_at}
use Rattle.cmap_encode.specs.Letters.{counted}
use Rattle.cmap_encode.proofs.choices.Choices.first_after.Given as goal

abbrev pub invariant-loop-last : goal.invariant-loop-last
invariant-loop-last l = record {
  from : l.fn.row.first ≤ l.last;
  none : first_given (owned_at l.self.index (Some l.node)) (take (l.last - l.fn.row.first) (counted l.fn.row.first l.fn.row.count)) ≡ None;
}
