use Rattle.std.proofs.Common.{ℕ, ◌+◌, ◌-◌, ◌≤◌, map}
use Rattle.cmap_values.specs.DeclarationsSeen.{bf_entry_seen}
use Rattle.cmap_layers.specs.Lookups.{bf_of}
use Rattle.cmap_edit.specs.Parts.{AreTextsAdded}
use Rattle.cmap_edit.proofs.flatten.texts.add_texts.Given as goal

abbrev pub invariant-loop-next : goal.invariant-loop-next
invariant-loop-next l = record {
  from : l.range.start ≤ l.next;
  to : l.next ≤ l.end + 1;
  added : AreTextsAdded (map bf_entry_seen l.fn.texts.items) l.range.start l.next (λ (code : ℕ). bf_of l.layers code) (map bf_entry_seen l.texts.items);
}

abbrev pub decreases-loop-next : goal.decreases-loop-next
decreases-loop-next l = l.end + 1 - l.next
