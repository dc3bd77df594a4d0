use Rattle.std.proofs.Common.{string_bytes}
use Rattle.cmap_encode.proofs.Folded.{next_added}
use Rattle.cmap_encode.proofs.folding.push_all.Goals as goal

pub loop-character-preserved : goal.loop-character-preserved
loop-character-preserved c =
    next_added (string_bytes c.args.text.now) (string_bytes c.loop-character.text) _ c.args.characters.now c.loop-character.character-index c.character-item.result _
    c.loop-character-test.true c.character-item.is c.loop-character.invariant c.in_ok-push.ensures.bytes
