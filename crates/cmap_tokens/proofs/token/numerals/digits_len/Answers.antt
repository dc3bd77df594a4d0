use Rattle.std.proofs.Common.{arith}
use Rattle.std.specs.Char.{is_digit}
use Rattle.std.proofs.lemmas.Bool.{le-ltb, lt-ltb}
use Rattle.cmap_tokens.proofs.BytesPassed.{prefix_all, prefix_here, prefix_more}
use Rattle.cmap_tokens.proofs.token.numerals.digits_len.Goals as goal

pub returns-then-digit_value-base-clause-exact : goal.returns-then-digit_value-base-clause-exact
returns-then-digit_value-base-clause-exact c =
    prefix_here (λ b. is_digit b c.args.base) c.args.text.now c.loop-i.i _ c.loop-i-test.true (le-ltb _ _ (omega (arith, c.digit_value.ensures, c.if-digit_value-base.true))) c.loop-i.invariant

pub loop-i-preserved : goal.loop-i-preserved
loop-i-preserved c =
    prefix_more (λ b. is_digit b c.args.base) c.args.text.now c.loop-i.i _ c.loop-i-test.true (lt-ltb _ _ (omega (arith, c.digit_value.ensures, c.if-digit_value-base.false))) c.loop-i.invariant

pub returns-clause-exact : goal.returns-clause-exact
returns-clause-exact c = prefix_all (λ b. is_digit b c.args.base) c.args.text.now c.loop-i.i _ c.loop-i.auto.i-end c.loop-i-test.false c.loop-i.invariant
