use Rattle.std.proofs.Common.{arith}
use Rattle.cmap_text.proofs.UnitsRead.{four_units, three_units}
use Rattle.cmap_text.proofs.tokens.units_of_parts.Goals as goal

pub returns-then-len-le6 : goal.returns-then-len-le6
returns-then-len-le6 c = λ front rest front_are rest_are four count least most even high low.
    three_units front rest c.args.high c.args.low front_are rest_are four (omega (arith, count, least, c.if-len-le6.true)) high low

pub returns-else-len-le6 : goal.returns-else-len-le6
returns-else-len-le6 c = λ front rest front_are rest_are four count least most even high low.
    four_units front rest c.args.high c.args.low front_are rest_are four (omega (arith, count, most, even, c.if-len-le6.false)) high low
