use Rattle.std.proofs.Common.{◌+◌, get_or, drop, refl, arith, sym, ◌∙◌}
use Rattle.cmap_tokens.specs.Malformed.{hex_left}
use Rattle.cmap_tokens.proofs.BytesPassed.{passed_all, passed_more, passed_up_to}
use Rattle.cmap_tokens.proofs.MalformedRead.{left_at_line, left_more}
use Rattle.cmap_tokens.proofs.token.malformed_pieces.hex_left.Goals as goal

pub returns-in-62-clause-exact : goal.returns-in-62-clause-exact
returns-in-62-clause-exact c = passed_up_to hex_left c.args.text.now c.loop-i.i 1 _ (c.loop-i.i + 1) c.loop-i-test.true (rw c.in-62.is refl) refl c.loop-i.invariant

pub returns-in-60-clause-exact : goal.returns-in-60-clause-exact
returns-in-60-clause-exact c = passed_up_to hex_left c.args.text.now c.loop-i.i 0 _ c.loop-i.i c.loop-i-test.true (rw c.in-60.is refl) (omega arith) c.loop-i.invariant

pub returns-in_default-clause-exact : goal.returns-in_default-clause-exact
returns-in_default-clause-exact c =
    let ends = left_at_line (get_or c.args.text.now c.loop-i.i 0) (drop (c.loop-i.i + 1) c.args.text.now) (λ same. omega (arith, same)) (λ same. omega (arith, same)) (sym c.is_line_end.ensures ∙ c.if-is_line_end.true) in
    passed_up_to hex_left c.args.text.now c.loop-i.i 0 _ c.loop-i.i c.loop-i-test.true ends (omega arith) c.loop-i.invariant

pub loop-i-preserved : goal.loop-i-preserved
loop-i-preserved c =
    let more = left_more (get_or c.args.text.now c.loop-i.i 0) (drop (c.loop-i.i + 1) c.args.text.now) (λ same. omega (arith, same)) (λ same. omega (arith, same)) (sym c.is_line_end.ensures ∙ c.if-is_line_end.false) in
    passed_more hex_left hex_left c.args.text.now c.loop-i.i _ c.loop-i-test.true more c.loop-i.invariant

pub returns-clause-exact : goal.returns-clause-exact
returns-clause-exact c = passed_all hex_left c.args.text.now c.loop-i.i _ refl c.loop-i.auto.i-end c.loop-i-test.false c.loop-i.invariant
