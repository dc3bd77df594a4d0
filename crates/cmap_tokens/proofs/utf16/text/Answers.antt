use Rattle.std.proofs.Common.{sym, ap, ◌∙◌}
use Rattle.std.specs.Prelude.{option_and_then}
use Rattle.cmap_tokens.specs.Texts.{characters}
use Rattle.cmap_tokens.proofs.TextsOfUnits.{characters-long, text_of_char, text_of_none}
use Rattle.cmap_tokens.proofs.utf16.text.Goals as goal

pub returns-in-Err-clause-err : goal.returns-in-Err-clause-err
returns-in-Err-clause-err c =
    rw (ap (option_and_then characters) c.in-Some.ensures) (characters-long c.in-Some.front.now c.in-Some.last (sym c.if-is_well_formed.true ∙ c.is_well_formed.ensures) c.in_default-only_char.ensures)

pub returns-in_default : goal.returns-in_default
returns-in_default c = record { value = text_of_none c.args.units.now c.args.offset c.in_default.ensures; err = tt }

pub returns-in-Some-only_char : goal.returns-in-Some-only_char
returns-in-Some-only_char c = record { value = text_of_char c.args.units.now _ c.args.offset c.in-Some-only_char.c c.in-Some.ensures c.in-Some-only_char.ensures; err = tt }
