use Rattle.cmap_values.specs.Files.{notdef}
use Rattle.cmap_values.specs.DeclarationsSeen.{lists_seen}
use Rattle.cmap_binary.specs.BinaryFiles.{NotdefAt}
use Rattle.cmap_binary.proofs.RowsAdded.{HasAdded}
use Rattle.cmap_binary.proofs.fields.add_notdefs.Given as goal

abbrev pub invariant-loop : goal.invariant-loop
invariant-loop l = HasAdded (NotdefAt l.width) (notdef l.width) l.count l.initial.payload (lists_seen l.initial.lists) l.counter l.payload (lists_seen l.lists)
