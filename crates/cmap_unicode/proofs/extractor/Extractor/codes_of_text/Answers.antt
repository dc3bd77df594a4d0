use Rattle.std.proofs.Common.{◌≡◌, ◌^◌, subst, arith}
use Rattle.std.specs.Str.{chars}
use Rattle.cmap_values.specs.CodeLengths.{length_of}
use Rattle.cmap_layers.specs.CodeRanges.{AreRangesOf}
use Rattle.cmap_unicode.specs.Characters.{font_of}
use Rattle.cmap_unicode.specs.CodesOfTexts.{HasText}
use Rattle.cmap_unicode.proofs.RowsWithText.{added, passed_over}
use Rattle.cmap_unicode.proofs.extractor.Extractor.codes_of_text.Goals as goal
use Rattle.cmap_unicode.proofs.extractor.Extractor.codes_of_text.Goals.{in-Some+in_ok-add_range, in_default}

pub returns : goal.returns
returns c =
    let end : c.loop-next.next ≡ 256 ^ length_of c.args.len = omega (arith, c.loop-next.invariant.within, c.last_code-last.ensures) in
    subst (λ n. AreRangesOf (HasText (font_of c.args.self.now) (length_of c.args.len) (chars c.args.text.now)) n c.loop-next.ranges.items) end c.loop-next.invariant.codes

pub loop-next-preserved : goal.loop-next-preserved
loop-next-preserved c =
    let font = font_of c.args.self.now in let len = length_of c.args.len in let characters = chars c.args.text.now in
    let (from, below, found) = rw (c.deref.ensures.value, c.in_ok-wanted.ensures) at c.in_ok-found.ensures in
    elim c.match-found.branch [
      | in-Some+in_ok-add_range w ↦ record {
        within = omega (arith, c.from-next.ensures, below);
        codes = rw (w.ranges-is, c.from-next.ensures, w.in_ok-add_range.ensures) (added font len characters c.loop-next.next c.in_ok-found.end c.loop-next.ranges.items c.loop-next.invariant.codes from w.in-Some.range (rw w.in-Some.is at found));
      }
      | in_default w ↦ record {
        within = omega (arith, c.from-next.ensures, below);
        codes = rw (w.ranges-is, c.from-next.ensures) (passed_over font len characters c.loop-next.next c.in_ok-found.end c.loop-next.ranges.items c.loop-next.invariant.codes from (rw w.in_default.is at found));
      }
    ]
