use Rattle.std.proofs.Common.{◌-◌, refl, sym, subst}
use Rattle.cmap_values.specs.UnitsSeen.{units_seen}
use Rattle.cmap_edit.specs.Tidy.{IsTextRow}
use Rattle.cmap_edit.proofs.TextUnits.{shifted_twice}
use Rattle.cmap_edit.proofs.tidy.texts.TextsFromConsecutive.row.Goals as goal

pub returns : goal.returns
returns c =
    let start = c.args.start in let end = c.text_row_end.result in let within = c.text_row_end.ensures.within in
    record {
      is_row = subst (λ units. IsTextRow (record { start = start; end = end; units = units })) c.as_slice.ensures c.text_row_end.ensures.row;
      spans = refl;
      starts = refl;
      filled = within.0;
      ends = within.1;
      answers = λ code from to. sym (shifted_twice c.args.self.now.units.now (units_seen c.in_ok-units.units) c.args.offset (code - start) c.in_ok-units.ensures);
    }
