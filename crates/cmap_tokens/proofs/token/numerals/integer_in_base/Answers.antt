use Rattle.std.proofs.Common.{ap, ◌∙◌}
use Rattle.std.specs.Prelude.{option_map}
use Rattle.cmap_tokens.specs.NumberSeen.{number_seen}
use Rattle.cmap_tokens.proofs.NumbersSpelled.{good_base, none_in_base, wrong_base}
use Rattle.cmap_tokens.proofs.token.numerals.integer_in_base.Goals as goal

pub returns-in_err-base : goal.returns-in_err-base
returns-in_err-base c = ap (option_map number_seen) c.from_residual.ensures ∙ none_in_base c.args.base.now c.args.digits.now c.in_err-base.ensures

pub returns-then-base-lt2 : goal.returns-then-base-lt2
returns-then-base-lt2 c = wrong_base c.args.base.now c.args.digits.now c.in_ok-base.base c.in_ok-base.ensures c.then-base-lt2.either

pub returns : goal.returns
returns c = c.integer.ensures ∙ good_base c.args.base.now c.args.digits.now c.in_ok-base.base c.in_ok-base.ensures c.if-base-lt2.false c.if-base-gt36.false
