use Rattle.std.proofs.Common.{not, nat_eq, bit_and, get_or, refl, arith}
use Rattle.std.proofs.lemmas.Bool.{agree_below_at}
use Rattle.cmap_tokens.specs.declared.token.byte_class.TheConstants.{CLASSES}
use Rattle.cmap_tokens.specs.TokenReading.{begins_number}
use Rattle.cmap_tokens.proofs.token.byte_class.begins_number.Goals as goal

pub returns : goal.returns
returns c = agree_below_at (λ b. not (nat_eq (bit_and (get_or CLASSES b 0) 4) 0)) begins_number 256 c.args.byte refl (omega arith)
