use Rattle.cmap_values.specs.Files.{codespace}
use Rattle.cmap_values.specs.DeclarationsSeen.{lists_seen}
use Rattle.cmap_binary.specs.BinaryFiles.{CodespaceAt}
use Rattle.cmap_binary.proofs.RowsAdded.{HasAdded}
use Rattle.cmap_binary.proofs.fields.add_codespaces.Given as goal

abbrev pub invariant-loop : goal.invariant-loop
invariant-loop l = HasAdded CodespaceAt codespace l.count l.initial.payload (lists_seen l.initial.lists) l.counter l.payload (lists_seen l.lists)
