use Rattle.std.proofs.Common.{ap, ◌∙◌, arith, get_or}
use Rattle.std.specs.Char.{digit_value}
use Rattle.std.proofs.lemmas.Bool.{le-ltb, lt-ltb}
use Rattle.std.proofs.lemmas.List.{take_all}
use Rattle.cmap_tokens.specs.Malformed.{last_digits}
use Rattle.cmap_tokens.proofs.MalformedRead.{digit_more, no_digit}
use Rattle.cmap_tokens.proofs.token.malformed_pieces.last_digits.Goals as goal
use Rattle.cmap_tokens.proofs.token.malformed_pieces.last_digits.Goals.{then-digit_value-lt16, else-digit_value-lt16}

pub loop-byte-preserved : goal.loop-byte-preserved
loop-byte-preserved c =
    let text = c.args.text.now in
    let i = c.loop-byte.byte-index in
    elim c.if-digit_value-lt16.branch [
      | then-digit_value-lt16 w ↦
          let digit = lt-ltb (digit_value (get_or text i 0)) 16 (omega (arith, c.digit_value.ensures, w.if-digit_value-lt16.true)) in
          record { same = w.count-is ∙ digit_more text i _ c.loop-byte-test.true digit c.loop-byte.invariant.same; within = omega (arith, w.count-is, c.loop-byte.invariant.within) }
      | else-digit_value-lt16 w ↦
          let other = le-ltb (digit_value (get_or text i 0)) 16 (omega (arith, c.digit_value.ensures, w.if-digit_value-lt16.false)) in
          record { same = w.count-is ∙ no_digit text i c.loop-byte-test.true other; within = omega (arith, w.count-is) }
    ]

pub returns-clause-exact : goal.returns-clause-exact
returns-clause-exact c = c.loop-byte.invariant.same ∙ ap (last_digits 0) (take_all c.loop-byte.byte-index c.args.text.now (omega (arith, c.loop-byte-test.false)))
