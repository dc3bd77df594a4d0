use Rattle.std.proofs.Common.{◌≡◌, ◌-◌, ◌^◌, ◌≤◌, map}
use Rattle.cmap_values.specs.DeclarationsSeen.{bf_entry_seen}
use Rattle.cmap_edit.specs.Parts.{AreTextsBelow}
use Rattle.cmap_edit.proofs.flatten.texts.texts_in.Given as goal

abbrev pub invariant-loop-next : goal.invariant-loop-next
invariant-loop-next l = record {
  declarations : l.stretches.declarations ≡ l.chosen;
  next : l.stretches.next ≡ l.next;
  within : l.next ≤ 2 ^ 32;
  texts : AreTextsBelow l.layers l.chosen l.next (map bf_entry_seen l.texts.items);
}

abbrev pub decreases-loop-next : goal.decreases-loop-next
decreases-loop-next l = 2 ^ 32 - l.next
