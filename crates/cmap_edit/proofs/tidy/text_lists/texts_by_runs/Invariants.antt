use Rattle.std.proofs.Common.{◌≡◌, ◌-◌, ◌≤◌, ◌^◌, map}
use Rattle.cmap_layers.specs.Lookups.{bf_span}
use Rattle.cmap_values.specs.DeclarationsSeen.{bf_entry_seen}
use Rattle.cmap_edit.specs.Tidy.{AreTidyTexts, units_at}
use Rattle.cmap_edit.specs.TidyAdded.{SaysSoFar}
use Rattle.cmap_edit.proofs.tidy.text_lists.texts_by_runs.Given as goal

abbrev pub invariant-loop-next : goal.invariant-loop-next
invariant-loop-next l = record {
  declarations : l.stretches.declarations ≡ l.table;
  next : l.stretches.next ≡ l.next;
  fits : l.next ≤ 2 ^ 32;
  tidy : AreTidyTexts (map bf_entry_seen l.list.items);
  so_far : SaysSoFar bf_span units_at (map bf_entry_seen l.table) l.next (map bf_entry_seen l.list.items);
}

abbrev pub decreases-loop-next : goal.decreases-loop-next
decreases-loop-next l = 2 ^ 32 - l.next
