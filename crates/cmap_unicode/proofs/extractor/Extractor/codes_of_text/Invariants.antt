use Rattle.std.proofs.Common.{◌-◌, ◌^◌, ◌≤◌}
use Rattle.std.specs.Str.{chars}
use Rattle.cmap_values.specs.CodeLengths.{length_of}
use Rattle.cmap_layers.specs.CodeRanges.{AreRangesOf}
use Rattle.cmap_unicode.specs.Characters.{font_of}
use Rattle.cmap_unicode.specs.CodesOfTexts.{HasText}
use Rattle.cmap_unicode.proofs.extractor.Extractor.codes_of_text.Given as goal

abbrev pub invariant-loop-next : goal.invariant-loop-next
invariant-loop-next l = record {
  within : l.next ≤ 256 ^ length_of l.len;
  codes : AreRangesOf (HasText (font_of l.self) (length_of l.len) (chars l.text)) l.next l.ranges.items;
}

abbrev pub decreases-loop-next : goal.decreases-loop-next
decreases-loop-next l = 256 ^ length_of l.len - l.next
