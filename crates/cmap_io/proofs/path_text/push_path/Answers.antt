use Rattle.std.proofs.Common.{string_bytes}
use Rattle.std.proofs.lemmas.Iterator.{YieldsList-from_chars}
use Rattle.std.proofs.lemmas.Iterator.Consumers.{YieldsList-end}
use Rattle.cmap_io.proofs.Adds.{every_piece, one_more}
use Rattle.cmap_io.proofs.AddsShown.{shows_both}
use Rattle.cmap_io.specs.PathTexts.{path_character_shown}
use Rattle.cmap_io.proofs.path_text.push_path.Goals as goal

pub returns-in_err-push_character-clause-harmless : goal.returns-in_err-push_character-clause-harmless
returns-in_err-push_character-clause-harmless c =
    shows_both _ _ _ c.loop-character.invariant.0 c.push_character.ensures.harmless

pub loop-character-preserved : goal.loop-character-preserved
loop-character-preserved c = (
  shows_both _ _ _ c.loop-character.invariant.0 c.push_character.ensures.harmless,
  one_more path_character_shown (string_bytes c.args.out.now) _ _ c.loop-character.yielded c.in-Some.character c.loop-character.invariant.1 c.in_ok-push_character.ensures.shown,
)

pub returns-clause-shown : goal.returns-clause-shown
returns-clause-shown c =
    let seen = YieldsList-end (YieldsList-from_chars c.args.path.now c.utf8.path cc) c.loop-character.yielded _ c.loop-character.yielded_by _ _ c.in-None.is c.next.ensures.steps in
    every_piece path_character_shown _ _ _ _ seen.0 c.loop-character.invariant.1
