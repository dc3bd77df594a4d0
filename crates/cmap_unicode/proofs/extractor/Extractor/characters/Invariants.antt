use Rattle.std.proofs.Common.{length}
use Rattle.cmap_unicode.specs.Characters.{font_of}
use Rattle.cmap_unicode.proofs.CharactersInRow.{AreFirst}
use Rattle.cmap_unicode.proofs.extractor.Extractor.characters.Given as goal

abbrev pub decreases-loop-characters : goal.decreases-loop-characters
decreases-loop-characters l = length l.left

abbrev pub invariant-loop-characters : goal.invariant-loop-characters
invariant-loop-characters l = AreFirst (font_of l.self) l.string l.characters.items l.left
