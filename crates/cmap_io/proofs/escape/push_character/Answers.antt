use Rattle.std.proofs.Common.{[], ◌∷◌, ◌∙◌, sym, inr, rules}
use Rattle.cmap_io.proofs.Adds.{adds_bytes}
use Rattle.cmap_io.proofs.AddsShown.{shows_one, shows_printable}
use Rattle.cmap_io.proofs.escape.push_character.Goals as goal

pub returns-in-92-clause-harmless : goal.returns-in-92-clause-harmless
returns-in-92-clause-harmless c = shows_printable _ _ (adds_bytes _ _ _ (0x5C ∷ 0x5C ∷ []) c.push_str.ensures.bytes (search rules))

pub returns-in-34-clause-harmless : goal.returns-in-34-clause-harmless
returns-in-34-clause-harmless c = shows_printable _ _ (adds_bytes _ _ _ (0x5C ∷ 0x22 ∷ []) c.push_str-in-34.ensures.bytes (search rules))

pub returns-in_default-clause-harmless : goal.returns-in_default-clause-harmless
returns-in_default-clause-harmless c = shows_printable _ _ c.push_by_number.ensures.printable

pub returns-in_default-2-clause-harmless : goal.returns-in_default-2-clause-harmless
returns-in_default-2-clause-harmless c = shows_one _ _ _ _ c.push.ensures.bytes (inr (sym c.is_hidden.ensures ∙ c.if-is_hidden.false))
