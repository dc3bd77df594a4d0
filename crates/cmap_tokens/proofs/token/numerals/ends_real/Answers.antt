use Rattle.std.proofs.Common.{◌+◌, true, false, refl, sym, ◌∙◌, arith}
use Rattle.std.proofs.lemmas.Bool.{le-ltb, lt-ltb}
use Rattle.std.proofs.lemmas.List.{take_rest}
use Rattle.cmap_tokens.proofs.NumbersSpelled.{dot_real}
use Rattle.cmap_tokens.proofs.token.numerals.ends_real.Goals as goal

pub returns-then-is_empty : goal.returns-then-is_empty
returns-then-is_empty c =
    c.if-is_empty.true ∙ dot_real c.args.len _ c.args.text.now _ _ true true _ (omega arith) (take_rest c.args.text.now 1) c.digits_len-fraction_len.ensures.exact (take_rest _ c.digits_len-fraction_len.result) (lt-ltb _ _ c.if-len-fraction_len-gt0.true) (sym c.if-is_empty.ensures) refl

pub returns-else-is_empty : goal.returns-else-is_empty
returns-else-is_empty c =
    dot_real c.args.len _ c.args.text.now _ _ true false c.is_exponent.result (omega arith) (take_rest c.args.text.now 1) c.digits_len-fraction_len.ensures.exact (take_rest _ c.digits_len-fraction_len.result) (lt-ltb _ _ c.if-len-fraction_len-gt0.true) (sym c.if-is_empty.ensures) (sym c.is_exponent.ensures)

pub returns-else-len-fraction_len-gt0 : goal.returns-else-len-fraction_len-gt0
returns-else-len-fraction_len-gt0 c =
    let none = le-ltb 0 (c.args.len + c.digits_len-fraction_len.result) c.if-len-fraction_len-gt0.false in
    none ∙ dot_real c.args.len _ c.args.text.now _ _ false _ _ (omega arith) (take_rest c.args.text.now 1) c.digits_len-fraction_len.ensures.exact refl none refl refl
