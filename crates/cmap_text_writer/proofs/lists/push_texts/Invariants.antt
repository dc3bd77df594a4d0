use Rattle.std.proofs.Common.{length, map}
use Rattle.cmap_values.specs.DeclarationsSeen.{bf_entry_seen}
use Rattle.cmap_values.specs.Files.{Declaration}
use Rattle.cmap_text_writer.specs.Lengths.{text_length}
use Rattle.cmap_text_writer.specs.Told.{TellsSections}
use Rattle.cmap_text_writer.proofs.SectionsTold.{DoneTo}
use Rattle.cmap_text_writer.proofs.lists.push_texts.Given as goal

abbrev pub invariant-loop-left : goal.invariant-loop-left
invariant-loop-left l = DoneTo (λ xs. TellsSections (text_length l.lengths) (map Declaration.bf (map bf_entry_seen xs))) l.entries l.left l.initial.out.items l.out.items

abbrev pub decreases-loop-left : goal.decreases-loop-left
decreases-loop-left l = length l.left
