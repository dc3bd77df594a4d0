use Rattle.cmap_values.specs.Files.{bf}
use Rattle.cmap_values.specs.DeclarationsSeen.{lists_seen}
use Rattle.cmap_binary.specs.EntryByEntry.{BfEntryAt}
use Rattle.cmap_binary.specs.BundleSeen.{tables_seen}
use Rattle.cmap_binary.specs.ColumnsSeen.{columns_seen}
use Rattle.cmap_binary.proofs.RowsAdded.{HasAdded}
use Rattle.cmap_binary.proofs.entries.add_each_text.Given as goal

abbrev pub invariant-loop : goal.invariant-loop
invariant-loop l = HasAdded (BfEntryAt (tables_seen l.tables) l.fixed) bf l.count (columns_seen l.initial.columns, l.initial.text) (lists_seen l.initial.lists) l.counter (columns_seen l.columns, l.text) (lists_seen l.lists)
