use Rattle.std.proofs.Common.{length, ◌-◌}
use Rattle.cmap_unicode.specs.Characters.{font_of}
use Rattle.cmap_c.proofs.CharactersExtracted.{IsExtracting}
use Rattle.cmap_c.proofs.extract.extract.Given as goal

abbrev pub decreases-loop-extracted : goal.decreases-loop-extracted
decreases-loop-extracted l = length l.initial.characters - l.extracted.made

abbrev pub invariant-loop-extracted : goal.invariant-loop-extracted
invariant-loop-extracted l = IsExtracting (font_of l.font) l.string l.fn.characters l.characters l.fn.text l.text l.extracted
