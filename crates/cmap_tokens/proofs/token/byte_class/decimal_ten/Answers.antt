use Rattle.std.proofs.Common.{◌*◌, true, nat_eq, get_or, refl, arith}
use Rattle.std.proofs.lemmas.Bool.{agree_below_at, eqb-true}
use Rattle.cmap_tokens.specs.declared.token.byte_class.TheConstants.{DECIMAL_TENS}
use Rattle.cmap_tokens.specs.TokenReading.{weight}
use Rattle.cmap_tokens.proofs.token.byte_class.decimal_ten.Goals as goal

pub returns : goal.returns
returns c = eqb-true _ _ (agree_below_at (λ b. nat_eq (get_or DECIMAL_TENS b 0) (10 * weight 10 b)) (λ _. true) 256 c.args.byte refl (omega arith))
