use Rattle.std.proofs.Common.{◌≡◌, ◌-◌, ◌^◌, ◌≤◌}
use Rattle.cmap_values.specs.CodeLengths.{length_of}
use Rattle.cmap_values.specs.DeclarationsSeen.{entries_seen}
use Rattle.cmap_edit.specs.Parts.{AreDeclaredBelow}
use Rattle.cmap_edit.proofs.flatten.cids.declared_in.Given as goal

abbrev pub invariant-loop-next : goal.invariant-loop-next
invariant-loop-next l = record {
  declarations : l.stretches.declarations ≡ l.chosen;
  next : l.stretches.next ≡ l.next;
  within : l.next ≤ 2 ^ 32;
  codes : AreDeclaredBelow l.layers (length_of l.len) l.chosen l.next (entries_seen l.made.cids.items) (entries_seen l.made.notdefs.items);
}

abbrev pub decreases-loop-next : goal.decreases-loop-next
decreases-loop-next l = 2 ^ 32 - l.next
