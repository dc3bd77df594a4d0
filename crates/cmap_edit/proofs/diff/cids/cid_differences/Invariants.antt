use Rattle.std.proofs.Common.{◌-◌, ◌^◌, ◌≤◌}
use Rattle.cmap_values.specs.CodeLengths.{length_of}
use Rattle.cmap_layers.specs.Lookups.{cid_of}
use Rattle.cmap_edit.specs.Differences.{AreCidDifferencesBelow}
use Rattle.cmap_edit.proofs.diff.cids.cid_differences.Given as goal

abbrev pub invariant-loop-next : goal.invariant-loop-next
invariant-loop-next l = record {
  within : l.next ≤ 2 ^ 32;
  are : AreCidDifferencesBelow (λ code. cid_of l.left code (length_of l.len)) (λ code. cid_of l.right code (length_of l.len)) l.next l.differences.items;
}

abbrev pub decreases-loop-next : goal.decreases-loop-next
decreases-loop-next l = 2 ^ 32 - l.next
