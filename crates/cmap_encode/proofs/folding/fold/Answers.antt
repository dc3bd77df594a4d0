use Rattle.std.proofs.Common.{sym, ap, ◌∙◌, encode_utf8_all, map-id}
use Rattle.std.proofs.lemmas.Iterator.{YieldsList-from_chars}
use Rattle.std.proofs.lemmas.Iterator.Consumers.{YieldsList-end}
use Rattle.cmap_encode.specs.Folding.{folded, folded_character}
use Rattle.cmap_encode.proofs.Folded.{next_piece}
use Rattle.cmap_encode.proofs.folding.fold.Goals as goal

pub loop-character-preserved : goal.loop-character-preserved
loop-character-preserved c = next_piece folded_character _ _ c.loop-character.yielded c.in-Some.character c.loop-character.invariant c.in_ok-push_folded.ensures

pub returns : goal.returns
returns c =
    let seen = YieldsList-end (YieldsList-from_chars c.args.text.now c.utf8.text cc) c.loop-character.yielded _ c.loop-character.yielded_by _ _ c.in-None.is c.next.ensures.steps in
    c.loop-character.invariant ∙ ap (λ text. encode_utf8_all (folded text)) (sym (map-id c.loop-character.yielded) ∙ seen.0)
