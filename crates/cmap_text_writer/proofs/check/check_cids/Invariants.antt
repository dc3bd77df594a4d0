use Rattle.std.proofs.Common.{take}
use Rattle.std.specs.Prelude.{All}
use Rattle.cmap_values.specs.DeclarationsSeen.{entries_seen}
use Rattle.cmap_values.specs.CodeLengths.{length_of}
use Rattle.cmap_text_writer.specs.Fits.{BeginsFitting}
use Rattle.cmap_text_writer.proofs.check.check_cids.Given as goal

abbrev pub invariant-loop-entry : goal.invariant-loop-entry
invariant-loop-entry l = All (BeginsFitting (length_of l.len)) (entries_seen (take l.entry-index l.entries))
