use Rattle.std.proofs.Common.{inl, inr, sym, arith}
use Rattle.cmap_tokens.proofs.NumbersSpelled.{not_begun}
use Rattle.cmap_tokens.proofs.token.numerals.number_of.Goals as goal

pub returns-in_default : goal.returns-in_default
returns-in_default c = not_begun c.args.run.now (inl (omega (arith, c.in_default.len_below)))

pub returns-in_default-2 : goal.returns-in_default-2
returns-in_default-2 c = not_begun c.args.run.now (inr (sym c.if-begins_number.ensures))
