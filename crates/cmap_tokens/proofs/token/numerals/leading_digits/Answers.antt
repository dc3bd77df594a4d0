use Rattle.std.proofs.Common.{sym, ◌∙◌, arith}
use Rattle.cmap_tokens.proofs.Digits.{window_most, window_some}
use Rattle.cmap_tokens.proofs.token.numerals.leading_digits.Goals as goal

pub returns-in-Some : goal.returns-in-Some
returns-in-Some c = sym (window_some 8 c.args.text.now c.in-Some.found c.if-text-ge-FEW_DIGITS.true (omega arith) (sym c.ended_digits.ensures ∙ c.in-Some.is))

pub returns : goal.returns
returns c = c.ended_digits-2.ensures ∙ window_most c.min.result c.args.text.now c.min.ensures
