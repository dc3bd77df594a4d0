use Rattle.std.proofs.Common.{length}
use Rattle.cmap_values.specs.CodeLengths.{length_of}
use Rattle.cmap_values.specs.DeclarationsSeen.{cid_entry_seen}
use Rattle.cmap_binary_writer.specs.Fields.{NotdefFits, notdefs_payload}
use Rattle.cmap_binary_writer.proofs.PartsMade.{WrittenTo}
use Rattle.cmap_binary_writer.proofs.notdefs.push_notdefs.Given as goal

abbrev pub invariant-loop-left : goal.invariant-loop-left
invariant-loop-left l = WrittenTo 10 (notdefs_payload (length_of l.len)) 65535 cid_entry_seen (NotdefFits (length_of l.len)) l.entries l.left l.initial.out.items l.out.items

abbrev pub decreases-loop-left : goal.decreases-loop-left
decreases-loop-left l = length l.left
