use Rattle.std.proofs.Common.{◌+◌, ◌*◌, ◌^◌, ◌≤◌, ℕ, get_or, map, sym, ap, ◌∙◌, arith}
use Rattle.std.proofs.lemmas.List.{take_all}
use Rattle.std.specs.Int.Digits.{number_from_digits}
use Rattle.cmap_tokens.specs.TokenReading.{weight}
use Rattle.cmap_tokens.proofs.Digits.{heavy, light, most_weight, pair_fits, pair_more, pair_value}
use Rattle.cmap_tokens.proofs.token.numerals.hex_number.Goals as goal

most : (b : ℕ) → weight 16 b ≤ 2 ^ 32
most b = most_weight 16 b (omega arith)

pub overflow_mul-number : goal.overflow_mul-number
overflow_mul-number c = omega (arith, pair_fits c.loop-i.number 0 0 c.loop-i.i (omega arith) (omega arith) (omega (arith, c.loop-i-test.true, c.requires.few)) c.loop-i.invariant.bound)

pub overflow_add-number : goal.overflow_add-number
overflow_add-number c = omega (arith, c.hex_pair.ensures, pair_fits c.loop-i.number _ _ c.loop-i.i (most (get_or c.args.digits.now (2 * c.loop-i.i) 0)) (most (get_or c.args.digits.now (2 * c.loop-i.i + 1) 0)) (omega (arith, c.loop-i-test.true, c.requires.few)) c.loop-i.invariant.bound)

pub loop-i-preserved : goal.loop-i-preserved
loop-i-preserved c =
    let digits = c.args.digits.now in
    let i = c.loop-i.i in
    record {
      value = omega (arith, c.hex_pair.ensures, c.loop-i.invariant.value, pair_value digits i (omega (arith, c.loop-i-test.true)));
      bound = omega (arith, c.hex_pair.ensures, pair_more c.loop-i.number _ _ i (most (get_or digits (2 * i) 0)) (most (get_or digits (2 * i + 1) 0)) c.loop-i.invariant.bound);
    }

pub returns-then-number-lt-NO_DIGIT : goal.returns-then-number-lt-NO_DIGIT
returns-then-number-lt-NO_DIGIT c =
    let all = take_all (2 * c.loop-i.i) c.args.digits.now (omega (arith, c.loop-i-test.false, c.requires.pairs)) in
    sym (light 16 c.args.digits.now c.loop-i.number (omega arith) c.requires.some (c.loop-i.invariant.value ∙ ap (λ digits. number_from_digits 16 (map (weight 16) digits)) all) c.if-number-lt-NO_DIGIT.true)

pub returns-else-number-lt-NO_DIGIT : goal.returns-else-number-lt-NO_DIGIT
returns-else-number-lt-NO_DIGIT c =
    let all = take_all (2 * c.loop-i.i) c.args.digits.now (omega (arith, c.loop-i-test.false, c.requires.pairs)) in
    sym (heavy 16 c.args.digits.now c.loop-i.number (omega arith) (omega arith) c.requires.few (c.loop-i.invariant.value ∙ ap (λ digits. number_from_digits 16 (map (weight 16) digits)) all) c.if-number-lt-NO_DIGIT.false)
