use Rattle.std.proofs.Common.{length, map}
use Rattle.cmap_values.specs.DeclarationsSeen.{entries_seen}
use Rattle.cmap_text.specs.TextFiles.{declares_cid}
use Rattle.cmap_values.specs.CodeLengths.{length_of}
use Rattle.cmap_text.specs.TextSeen.{kind_seen}
use Rattle.cmap_text_writer.specs.Told.{TellsAnyway}
use Rattle.cmap_text_writer.proofs.SectionsTold.{DoneTo}
use Rattle.cmap_text_writer.proofs.lists.push_cids.Given as goal

abbrev pub invariant-loop-left : goal.invariant-loop-left
invariant-loop-left l = DoneTo (λ xs. TellsAnyway (map (declares_cid (kind_seen l.kind) (length_of l.len)) (entries_seen xs))) l.entries l.left l.initial.out.items l.out.items

abbrev pub decreases-loop-left : goal.decreases-loop-left
decreases-loop-left l = length l.left
