use Rattle.std.proofs.Common.{length}
use Rattle.cmap_values.specs.DeclarationsSeen.{codespace_seen}
use Rattle.cmap_binary_writer.specs.Fields.{SpaceFits, spaces_payload}
use Rattle.cmap_binary_writer.proofs.PartsMade.{WrittenTo}
use Rattle.cmap_binary_writer.proofs.codespaces.push_codespaces.Given as goal

abbrev pub invariant-loop-left : goal.invariant-loop-left
invariant-loop-left l = WrittenTo 12 spaces_payload 255 codespace_seen SpaceFits l.spaces l.left l.initial.out.items l.out.items

abbrev pub decreases-loop-left : goal.decreases-loop-left
decreases-loop-left l = length l.left
