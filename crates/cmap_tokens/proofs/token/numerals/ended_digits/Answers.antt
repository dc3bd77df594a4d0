use Rattle.std.proofs.Common.{◌≡◌, ◌^◌, ◌<◌, true, get_or, take, arith, length-take}
use Rattle.std.specs.Char.{is_digit}
use Rattle.std.proofs.lemmas.List.Sums.{prefix_len-drop_yes}
use Rattle.cmap_tokens.proofs.ByteTests.{all_front}
use Rattle.cmap_tokens.proofs.Digits.{digits_number_more, digits_small, is_decimal, weight_digit}
use Rattle.cmap_tokens.proofs.token.numerals.ended_digits.Goals as goal
use Rattle.cmap_tokens.proofs.token.numerals.ended_digits.Goals.{Else-digit-ge10}

digit : (c : Else-digit-ge10) → is_digit (get_or c.args.text.now c.loop-i.i 0) 10 ≡ true
digit c = is_decimal (get_or c.args.text.now c.loop-i.i 0) (omega (arith, c.decimal_weight-digit.ensures, c.if-digit-ge10.false))

small : (c : Else-digit-ge10) → c.loop-i.number < 10 ^ 18
small c =
    let i = c.loop-i.i in
    let text = c.args.text.now in
    rw c.loop-i.invariant.value
    (digits_small 10 18 (take i text) (omega arith) (all_front (λ b. is_digit b 10) i text (omega (arith, c.loop-i.invariant.digits))) (omega (arith, c.loop-i-test.true, c.requires, length-take i text)))

pub overflow_mul-number : goal.overflow_mul-number
overflow_mul-number c = omega (arith, small c)

pub overflow_add-number : goal.overflow_add-number
overflow_add-number c = omega (arith, small c, c.if-digit-ge10.false)

pub loop-i-preserved : goal.loop-i-preserved
loop-i-preserved c =
    record {
      digits = omega (arith, c.loop-i.invariant.digits, prefix_len-drop_yes (λ b. is_digit b 10) c.args.text.now c.loop-i.i 0 c.loop-i-test.true (digit c));
      value = omega (arith, c.decimal_weight-digit.ensures, weight_digit (get_or c.args.text.now c.loop-i.i 0) (digit c), c.loop-i.invariant.value, digits_number_more 10 c.args.text.now c.loop-i.i c.loop-i-test.true);
    }
