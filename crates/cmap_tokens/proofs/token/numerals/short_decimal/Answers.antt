use Rattle.std.proofs.Common.{◌≡◌, ◌+◌, ◌*◌, ◌≤◌, ◌^◌, ℕ, get_or, take, drop, map, sym, arith}
use Rattle.std.specs.Int.Digits.{number_from_digits}
use Rattle.cmap_tokens.specs.TokenReading.{weight}
use Rattle.cmap_tokens.proofs.Digits.{five_counted, four_counted, most_weight, spaced_counted}
use Rattle.cmap_tokens.proofs.token.numerals.short_decimal.Goals as goal
use Rattle.cmap_tokens.proofs.token.numerals.short_decimal.Goals.{After-decimal_pair-2}

most : (b : ℕ) → weight 10 b ≤ 2 ^ 32
most b = most_weight 10 b (omega arith)

four_fits : (c : After-decimal_pair-2) → c.decimal_pair.result * 100 + c.decimal_pair-2.result ≤ 2 ^ 48
four_fits c =
    let text = c.args.text.now in
    omega (arith, c.decimal_pair.ensures, c.decimal_pair-2.ensures, most (get_or text 1 0), most (get_or text 2 0), most (get_or text 3 0), most (get_or text 4 0))

pub overflow_add-four : goal.overflow_add-four
overflow_add-four c = omega (arith, four_fits c)

pub overflow_mul-four-then-is_white-2 : goal.overflow_mul-four-then-is_white-2
overflow_mul-four-then-is_white-2 c = omega (arith, four_fits (goal.at.overflow_mul-four-then-is_white-2 c).After-decimal_pair-2)

pub overflow_add-four-then-is_white-2 : goal.overflow_add-four-then-is_white-2
overflow_add-four-then-is_white-2 c =
    omega (arith, four_fits (goal.at.overflow_add-four-then-is_white-2 c).After-decimal_pair-2, c.decimal_weight.ensures, most (get_or c.args.text.now 5 0))

pub returns-then-is_white-clause-front : goal.returns-then-is_white-clause-front
returns-then-is_white-clause-front c =
    let text = c.args.text.now in
    let number : c.decimal_pair.result * 100 + c.decimal_pair-2.result ≡ number_from_digits 10 (map (weight 10) (take 4 (drop 1 text)))
    = omega (arith, c.decimal_pair.ensures, c.decimal_pair-2.ensures, four_counted text (omega (arith, c.if-text-lt-SHORT_LEN.false))) in
    spaced_counted 4 _ text c.if_digits.result (omega arith) (omega arith) (omega (arith, c.if-text-lt-SHORT_LEN.false)) (sym c.if-not-is_white.ensures) (sym c.if-is_white.ensures) number c.if_digits.ensures

pub returns-then-is_white-2-clause-front : goal.returns-then-is_white-2-clause-front
returns-then-is_white-2-clause-front c =
    let text = c.args.text.now in
    let number : (c.decimal_pair.result * 100 + c.decimal_pair-2.result) * 10 + c.decimal_weight.result ≡ number_from_digits 10 (map (weight 10) (take 5 (drop 1 text)))
    = omega (arith, c.decimal_pair.ensures, c.decimal_pair-2.ensures, c.decimal_weight.ensures, five_counted text (omega (arith, c.if-text-lt-SHORT_LEN.false))) in
    spaced_counted 5 _ text c.if_digits-then-is_white-2.result (omega arith) (omega arith) (omega (arith, c.if-text-lt-SHORT_LEN.false)) (sym c.if-not-is_white.ensures) (sym c.if-is_white-2.ensures) number c.if_digits-then-is_white-2.ensures
