use Rattle.cmap_values.specs.CodeLengths.{length_of}
use Rattle.cmap_values.specs.Files.{cid}
use Rattle.cmap_values.specs.DeclarationsSeen.{lists_seen}
use Rattle.cmap_binary.specs.EntryByEntry.{CidEntryAt}
use Rattle.cmap_binary.specs.BundleSeen.{tables_seen}
use Rattle.cmap_binary.specs.ColumnsSeen.{cid_columns_seen}
use Rattle.cmap_binary.proofs.RowsAdded.{HasAdded}
use Rattle.cmap_binary.proofs.entries.add_each_cid.Given as goal

abbrev pub invariant-loop : goal.invariant-loop
invariant-loop l = HasAdded (CidEntryAt (tables_seen l.tables)) (cid (length_of l.len)) l.count (cid_columns_seen l.initial.left) (lists_seen l.initial.lists) l.counter (cid_columns_seen l.left) (lists_seen l.lists)
