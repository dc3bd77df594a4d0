use Rattle.std.proofs.Common.{arith}
use Rattle.std.proofs.lemmas.Result.{on_ok_weaker}
use Rattle.cmap_io.proofs.Adds.{adds_both}
use Rattle.cmap_io.proofs.Hexadecimal.{last_digit_added, one_digit_added}
use Rattle.cmap_io.proofs.digits.+push_number.Goals as goal

pub returns-then-number-lt16-clause-shown : goal.returns-then-number-lt16-clause-shown
returns-then-number-lt16-clause-shown t c =
    on_ok_weaker _ (one_digit_added _ _ c.args.number c.if-number-lt16.true) c.push_digit.ensures.digit

pub returns-clause-shown : goal.returns-clause-shown
returns-clause-shown t c =
    on_ok_weaker _ (last_digit_added _ _ _ c.args.number c.if-number-lt16.false (omega arith) c.in_ok-push_number.ensures.shown) c.push_digit-2.ensures.digit

pub returns-clause-printable : goal.returns-clause-printable
returns-clause-printable t c = adds_both _ _ _ c.push_number.ensures.printable c.push_digit-2.ensures.printable
