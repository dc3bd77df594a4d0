use Rattle.std.proofs.Common.{◌≡◌, ℕ, ◌-◌, ◌^◌, ◌<◌, ◌≤◌}
use Rattle.cmap_values.specs.CodeLengths.{length_of}
use Rattle.cmap_layers.specs.Lookups.{cid_of}
use Rattle.cmap_edit.proofs.diff.first.first_cid_difference.Given as goal

abbrev pub invariant-loop-next : goal.invariant-loop-next
invariant-loop-next l = record {
  within : l.next ≤ 2 ^ 32;
  same : (code : ℕ) → code < l.next → cid_of l.left code (length_of l.len) ≡ cid_of l.right code (length_of l.len);
}

abbrev pub decreases-loop-next : goal.decreases-loop-next
decreases-loop-next l = 2 ^ 32 - l.next
