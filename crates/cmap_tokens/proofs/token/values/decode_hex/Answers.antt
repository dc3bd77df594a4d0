use Rattle.std.proofs.Common.{arith, append_assoc, append-nil}
use Rattle.std.proofs.lemmas.Bool.Decides.{nat_tests}
use Rattle.std.proofs.lemmas.List.{at_drop_more, at_drop_all}
use Rattle.cmap_tokens.specs.TokenReading.{hex_digits}
use Rattle.cmap_tokens.proofs.token.values.decode_hex.Goals as goal

pub loop-byte-preserved : goal.loop-byte-preserved
loop-byte-preserved c =
    let more = at_drop_more hex_digits c.args.digits.now c.loop-byte.byte-index 0 c.loop-byte-test.true in
    grind (arith, nat_tests, append_assoc)

pub returns-in-Some-high : goal.returns-in-Some-high
returns-in-Some-high c =
    let none = at_drop_all hex_digits c.args.digits.now c.loop-byte.byte-index (omega (arith, c.loop-byte-test.false)) in
    grind (arith, nat_tests)

pub returns-in_default : goal.returns-in_default
returns-in_default c =
    let none = at_drop_all hex_digits c.args.digits.now c.loop-byte.byte-index (omega (arith, c.loop-byte-test.false)) in
    grind (arith, nat_tests, append-nil)
