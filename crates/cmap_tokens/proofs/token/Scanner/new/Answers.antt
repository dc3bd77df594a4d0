use Rattle.cmap_tokens.proofs.Decided.{decided, in_order}
use Rattle.cmap_tokens.proofs.Fronts.{has_tokens}
use Rattle.cmap_tokens.proofs.token.Scanner.new.Goals as goal

pub returns-clause-tokens : goal.returns-clause-tokens
returns-clause-tokens c = has_tokens c.args.source.now

pub returns-clause-order : goal.returns-clause-order
returns-clause-order c = in_order c.args.source.now

pub returns-clause-fronts : goal.returns-clause-fronts
returns-clause-fronts c = decided c.args.source.now
