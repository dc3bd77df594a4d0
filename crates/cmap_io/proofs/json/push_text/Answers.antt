use Rattle.std.proofs.Common.{string_bytes}
use Rattle.std.proofs.lemmas.Iterator.{YieldsList-from_chars}
use Rattle.std.proofs.lemmas.Iterator.Consumers.{YieldsList-end}
use Rattle.cmap_io.specs.Json.{character_escaped}
use Rattle.cmap_io.proofs.Adds.{adds_both, every_piece, one_more}
use Rattle.cmap_io.proofs.json.push_text.Goals as goal

pub returns-in_err-push_character-clause-printable : goal.returns-in_err-push_character-clause-printable
returns-in_err-push_character-clause-printable c =
    adds_both _ _ _ c.loop-character.invariant.0 c.push_character.ensures.printable

pub loop-character-preserved : goal.loop-character-preserved
loop-character-preserved c = (
  adds_both _ _ _ c.loop-character.invariant.0 c.push_character.ensures.printable,
  one_more character_escaped (string_bytes c.args.out.now) _ _ c.loop-character.yielded c.in-Some.character c.loop-character.invariant.1 c.in_ok-push_character.ensures.escaped,
)

pub returns-clause-text : goal.returns-clause-text
returns-clause-text c =
    let seen = YieldsList-end (YieldsList-from_chars c.args.text.now c.utf8.text cc) c.loop-character.yielded _ c.loop-character.yielded_by _ _ c.in-None.is c.next.ensures.steps in
    every_piece character_escaped _ _ _ _ seen.0 c.loop-character.invariant.1
