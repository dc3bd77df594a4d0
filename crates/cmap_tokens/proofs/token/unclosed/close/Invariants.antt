use Rattle.std.proofs.Common.{◌≡◌, ◌++◌, List}
use Rattle.cmap_tokens.specs.OpenSeen.{plain_count}
use Rattle.cmap_tokens.specs.declared.token.unclosed.Open.{Open}
use Rattle.cmap_tokens.proofs.token.unclosed.close.Given as goal

abbrev pub invariant-loop-last : goal.invariant-loop-last
invariant-loop-last l = (dropped : List Open) × (l.initial.opened.items ≡ l.opened.items ++ dropped) × (plain_count dropped ≡ 0)

abbrev pub decreases-loop-last : goal.decreases-loop-last
decreases-loop-last l = goal.left-loop-last l
