use Rattle.cmap_tokens.specs.OpenSeen.{Tracks}
use Rattle.cmap_tokens.proofs.token.unclosed.Unclosed.from.Given as goal

abbrev pub invariant-loop-offset : goal.invariant-loop-offset
invariant-loop-offset l = Tracks l.text l.offset l.escaped l.opened.items
