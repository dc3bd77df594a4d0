use Rattle.std.proofs.Common.{◌≡◌, ◌-◌, ◌≤◌, ◌^◌}
use Rattle.cmap_layers.specs.Lookups.{cid_span}
use Rattle.cmap_values.specs.DeclarationsSeen.{entries_seen}
use Rattle.cmap_edit.specs.Kinds.{AreTidyOf}
use Rattle.cmap_edit.specs.TidyAdded.{SaysSoFar}
use Rattle.cmap_edit.proofs.tidy.cid_lists.cids_by_runs.Given as goal

abbrev pub invariant-loop-next : goal.invariant-loop-next
invariant-loop-next g l = record {
  declarations : l.stretches.declarations ≡ l.table;
  next : l.stretches.next ≡ l.next;
  fits : l.next ≤ 2 ^ 32;
  tidy : AreTidyOf g.K.Counting.kind (entries_seen l.list.items);
  so_far : SaysSoFar cid_span g.K.Counting.kind.at (entries_seen l.table) l.next (entries_seen l.list.items);
}

abbrev pub decreases-loop-next : goal.decreases-loop-next
decreases-loop-next g l = 2 ^ 32 - l.next
