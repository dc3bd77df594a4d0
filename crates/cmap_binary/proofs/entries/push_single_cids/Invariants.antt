use Rattle.std.proofs.Common.{◌*◌, ◌+◌, ◌≤◌, drop, vec_capacity, vec_len}
use Rattle.cmap_values.specs.Files.{cid}
use Rattle.cmap_values.specs.DeclarationsSeen.{lists_seen}
use Rattle.cmap_values.specs.declared.declarations.Lists.{Lists}
use Rattle.cmap_binary.specs.EntryByEntry.{CidEntryAt}
use Rattle.cmap_binary.specs.BinarySeen.{with_cids_of_two}
use Rattle.cmap_binary.specs.BundleSeen.{tables_seen}
use Rattle.cmap_binary.specs.ColumnsSeen.{cid_columns_seen, columns_seen}
use Rattle.cmap_binary.proofs.RowsAdded.{HasAdded}
use Rattle.cmap_binary.proofs.entries.push_single_cids.Given as goal

abbrev pub invariant-loop-i : goal.invariant-loop-i
invariant-loop-i l = record {
  added : (others : Lists) → HasAdded (CidEntryAt (tables_seen l.tables)) (cid 2) l.count (cid_columns_seen l.fn.left) (lists_seen (with_cids_of_two l.initial.list others)) l.i (record { columns = columns_seen l.columns; raws = drop (2 * l.i) l.raws; next = l.next }) (lists_seen (with_cids_of_two l.list others));
  room : vec_len l.list + l.count ≤ vec_capacity l.list + l.i;
}
