use Rattle.std.proofs.Common.{◌≡◌, map, ◌+◌, ◌-◌, ◌≤◌, ◌<◌, ◌^◌, length}
use Rattle.cmap_values.specs.DeclarationsSeen.{bf_entry_seen}
use Rattle.cmap_layers.specs.RowsWritten.{character_said}
use Rattle.cmap_layers.proofs.RowWritten.{IsWrittenTo}
use Rattle.cmap_layers.proofs.row.write_characters.Given as goal

abbrev pub invariant-loop-from : goal.invariant-loop-from
invariant-loop-from l = record {
  declarations : l.stretches.declarations ≡ l.table;
  next : l.from < length l.cids → l.stretches.next ≡ l.first + l.from;
  within : l.from ≤ length l.cids;
  fits : l.first + l.from ≤ 2 ^ 32;
  written : IsWrittenTo (character_said (map bf_entry_seen l.table)) l.first l.fn.cids l.cids l.from;
}

abbrev pub decreases-loop-from : goal.decreases-loop-from
decreases-loop-from l = length l.initial.cids - l.from
