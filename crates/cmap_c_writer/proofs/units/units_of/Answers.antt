use Rattle.std.proofs.Common.{◌∙◌, Some, ap, sym}
use Rattle.std.specs.Prelude.{flat_map}
use Rattle.std.specs.Char.Escape.{encode_utf16}
use Rattle.std.specs.Str.{chars}
use Rattle.cmap_c_writer.proofs.UnitsGiven.{filled, units_not_utf8, units_of_utf8}
use Rattle.cmap_c_writer.proofs.units.units_of.Goals as goal

pub returns-in_default : goal.returns-in_default
returns-in_default c = (tt, units_not_utf8 c.args.text.now c.in_default.ensures.cases.0)

pub returns : goal.returns
returns c =
    let text = c.args.text.now in (
      units_of_utf8 text c.in-Ok.ensures.cases.1 (filled _ (sym c.is_empty.ensures ∙ c.if-is_empty.false)) ∙ ap Some (sym (c.in_ok-from_text.ensures ∙ ap (λ characters. flat_map encode_utf16 (chars characters)) c.in-Ok.ensures.cases.0)),
      tt,
    )
