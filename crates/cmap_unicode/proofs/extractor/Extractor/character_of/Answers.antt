use Rattle.std.proofs.Common.{refl, sym, ap, ◌∙◌}
use Rattle.cmap_unicode.specs.Characters.{font_of}
use Rattle.cmap_unicode.specs.TextsOfCodes.{text_of}
use Rattle.cmap_unicode.proofs.OneText.{has_long_text, holds_on_err, one_text}
use Rattle.cmap_unicode.proofs.extractor.Extractor.character_of.Goals as goal

pub returns-in_err-text-clause-err : goal.returns-in_err-text-clause-err
returns-in_err-text-clause-err c =
    let font = font_of c.args.self.now in
    let (characters, is) = c.in_err-text.ensures.err in
    holds_on_err c.from_residual.result (has_long_text font c.args.code.code c.args.code.byte_len characters (ap (text_of font c.args.code.code) (sym c.declared_cid-cid.ensures) ∙ is))

pub returns-clause-character : goal.returns-clause-character
returns-clause-character c =
    let font = font_of c.args.self.now in
    record {
      of_code = refl;
      cid = c.declared_cid-cid.ensures;
      text = one_text font c.args.code.code c.args.code.byte_len _ (c.in_ok-text.ensures.value ∙ ap (text_of font c.args.code.code) c.declared_cid-cid.ensures);
    }
