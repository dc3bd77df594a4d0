use Rattle.std.proofs.Common.{◌≡◌, ◌+◌, ◌*◌, ◌≤◌, ◌^◌, ℕ, get_or, take, drop, map, sym, arith}
use Rattle.std.specs.Int.Digits.{number_from_digits}
use Rattle.cmap_tokens.specs.TokenReading.{weight}
use Rattle.cmap_tokens.proofs.Digits.{most_weight, spaced_counted, three_counted}
use Rattle.cmap_tokens.proofs.token.numerals.three_digits.Goals as goal

most : (b : ℕ) → weight 10 b ≤ 2 ^ 32
most b = most_weight 10 b (omega arith)

pub overflow_add-number : goal.overflow_add-number
overflow_add-number c =
    let text = c.args.text.now in
    omega (arith, c.decimal_pair.ensures, c.decimal_weight.ensures, most (get_or text 1 0), most (get_or text 2 0), most (get_or text 3 0))

pub returns-clause-front : goal.returns-clause-front
returns-clause-front c =
    let text = c.args.text.now in
    let number : c.decimal_pair.result * 10 + c.decimal_weight.result ≡ number_from_digits 10 (map (weight 10) (take 3 (drop 1 text)))
    = omega (arith, c.decimal_pair.ensures, c.decimal_weight.ensures, three_counted text (omega (arith, c.if-text-lt-THREE_DIGITS_LEN.false))) in
    spaced_counted 3 _ text c.if_digits.result (omega arith) (omega arith) (omega (arith, c.if-text-lt-THREE_DIGITS_LEN.false)) (sym c.if-not-is_white.ensures) (sym c.if-not-is_white-2.ensures) number c.if_digits.ensures
