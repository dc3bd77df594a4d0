use Rattle.std.proofs.Common.{rules, arith}
use Rattle.cmap_io.proofs.Spelled.{spelled_plain}
use Rattle.cmap_io.proofs.compact.push_character.Goals as goal

pub returns-in_default-2 : goal.returns-in_default-2
returns-in_default-2 c = rw (spelled_plain c.args.character (λ is. search rules) (λ is. search rules) c.if-character-lt32.false) (search rules)
