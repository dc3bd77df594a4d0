use Rattle.std.proofs.Common.{string_bytes}
use Rattle.cmap_io.proofs.Spelled.{one_more_spelled}
use Rattle.cmap_io.proofs.compact.push_escaped.Goals as goal

pub loop-character-preserved : goal.loop-character-preserved
loop-character-preserved c =
    one_more_spelled (string_bytes c.args.out.now) _ _ c.loop-character.yielded c.in-Some.character c.loop-character.invariant c.in_ok-push_character.ensures
