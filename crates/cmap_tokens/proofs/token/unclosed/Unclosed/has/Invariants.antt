use Rattle.std.proofs.Common.{◌≡◌, ◌-◌, length}
use Rattle.cmap_tokens.proofs.token.unclosed.Unclosed.has.Given as goal

abbrev pub invariant-loop-self : goal.invariant-loop-self
invariant-loop-self l = l.self.open.items ≡ l.initial.self.open.items

abbrev pub decreases-loop-self : goal.decreases-loop-self
decreases-loop-self l = length l.self.open.items - l.self.passed
