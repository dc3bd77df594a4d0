use Rattle.std.proofs.Common.{◌≡◌, true, get_or, sym, arith}
use Rattle.std.specs.Char.{digit_value}
use Rattle.std.proofs.lemmas.Bool.{le-ltb, lt-ltb, or_from, or_left, or_right}
use Rattle.cmap_tokens.specs.Tokens.{is_hex_body}
use Rattle.cmap_tokens.proofs.BytesPassed.{prefix_all, prefix_here, prefix_more}
use Rattle.cmap_tokens.proofs.token.lengths.hex_body_len.Goals as goal
use Rattle.cmap_tokens.proofs.token.lengths.hex_body_len.Goals.{else-digit_value-ge16-via-then-digit_value-ge16+else-not-is_white, else-digit_value-ge16-via-else-digit_value-ge16}

pub returns-then-not-is_white-clause-exact : goal.returns-then-not-is_white-clause-exact
returns-then-not-is_white-clause-exact c =
    prefix_here is_hex_body c.args.text.now c.loop-i.i _ c.loop-i-test.true (or_from _ _ (sym c.if-not-is_white.ensures) (le-ltb _ _ (omega (arith, c.digit_value.ensures, c.if-digit_value-ge16.true)))) c.loop-i.invariant

pub loop-i-preserved : goal.loop-i-preserved
loop-i-preserved c =
    let passes : is_hex_body (get_or c.args.text.now c.loop-i.i 0) ≡ true = elim c.else-digit_value-ge16.branch [
      | else-digit_value-ge16-via-then-digit_value-ge16+else-not-is_white w ↦ or_left _ _ (sym w.if-not-is_white.ensures)
      | else-digit_value-ge16-via-else-digit_value-ge16 w ↦ or_right _ _ (lt-ltb (digit_value (get_or c.args.text.now c.loop-i.i 0)) 16 (omega (arith, c.digit_value.ensures, w.if-digit_value-ge16.false)))
    ] in
    prefix_more is_hex_body c.args.text.now c.loop-i.i _ c.loop-i-test.true passes c.loop-i.invariant

pub returns-clause-exact : goal.returns-clause-exact
returns-clause-exact c = prefix_all is_hex_body c.args.text.now c.loop-i.i _ c.loop-i.auto.i-end c.loop-i-test.false c.loop-i.invariant
