use Rattle.std.proofs.Common.{length, map}
use Rattle.cmap_values.specs.DeclarationsSeen.{codespace_seen}
use Rattle.cmap_values.specs.Files.{Declaration}
use Rattle.cmap_text_writer.specs.Told.{TellsAnyway}
use Rattle.cmap_text_writer.proofs.SectionsTold.{DoneTo}
use Rattle.cmap_text_writer.proofs.lists.push_codespaces.Given as goal

abbrev pub invariant-loop-left : goal.invariant-loop-left
invariant-loop-left l = DoneTo (λ xs. TellsAnyway (map Declaration.codespace (map codespace_seen xs))) l.spaces l.left l.initial.out.items l.out.items

abbrev pub decreases-loop-left : goal.decreases-loop-left
decreases-loop-left l = length l.left
