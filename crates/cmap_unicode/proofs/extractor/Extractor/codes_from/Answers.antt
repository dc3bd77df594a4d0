use Rattle.std.proofs.Common.{arith}
use Rattle.cmap_values.specs.CodeLengths.{length_of}
use Rattle.cmap_unicode.specs.Characters.{font_of}
use Rattle.cmap_unicode.specs.TextRows.{its_text}
use Rattle.cmap_unicode.proofs.RowsWithText.{are_filled, spelled_among}
use Rattle.cmap_unicode.proofs.extractor.Extractor.codes_from.Goals as goal

pub returns : goal.returns
returns c =
    let font = font_of c.args.self.now in let len = length_of c.args.len in
    (omega (arith, c.in_ok-row.ensures.texts.within), omega arith, spelled_among font len c.args.text.now _ _ (c.in_ok-found.ensures (its_text font len) (are_filled font len) c.in_ok-row.ensures.texts))
