use Rattle.std.proofs.Common.{◌-◌, ◌^◌, ◌≤◌}
use Rattle.cmap_edit.specs.Differences.{AreTextDifferencesBelow}
use Rattle.cmap_edit.proofs.diff.texts.text_differences.Given as goal

abbrev pub invariant-loop-next : goal.invariant-loop-next
invariant-loop-next l = record {
  within : l.next ≤ 2 ^ 32;
  are : AreTextDifferencesBelow l.left l.right l.next l.differences.items;
}

abbrev pub decreases-loop-next : goal.decreases-loop-next
decreases-loop-next l = 2 ^ 32 - l.next
