use Rattle.cmap_tokens.proofs.OpenTracked.{ended}
use Rattle.cmap_tokens.proofs.token.unclosed.Unclosed.from.Goals as goal

pub returns : goal.returns
returns c = ended c.args.text.now c.loop-offset.offset c.loop-offset.escaped c.loop-offset.opened.items c.loop-offset-test.false c.loop-offset.invariant
