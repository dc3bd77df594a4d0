use Rattle.std.proofs.Common.{◌*◌, true, nat_eq, get_or, refl, arith}
use Rattle.std.proofs.lemmas.Bool.{agree_below_at, eqb-true}
use Rattle.cmap_tokens.specs.declared.token.byte_class.TheConstants.{HIGH_HEX_DIGITS}
use Rattle.cmap_tokens.specs.TokenReading.{weight}
use Rattle.cmap_tokens.proofs.token.byte_class.high_hex_weight.Goals as goal

pub returns : goal.returns
returns c = eqb-true _ _ (agree_below_at (λ b. nat_eq (get_or HIGH_HEX_DIGITS b 0) (16 * weight 16 b)) (λ _. true) 256 c.args.byte refl (omega arith))
