use Rattle.std.proofs.Common.{sym, arith}
use Rattle.cmap_tokens.proofs.Gaps.{plain_more}
use Rattle.cmap_tokens.proofs.token.gaps.plain_len.Goals as goal

pub loop-i-preserved : goal.loop-i-preserved
loop-i-preserved c =
    let within = c.loop-i-test.true in
    let on = plain_more c.args.text.now c.loop-i.i 16 (omega (arith, within, c.loop-i.invariant.within)) (sym c.if-are_plain.ensures) in
    record {
      within = omega (arith, within, c.loop-i.invariant.within);
      passed = omega (arith, on, c.loop-i.invariant.passed);
    }

pub returns-then-are_plain-2-clause-exact : goal.returns-then-are_plain-2-clause-exact
returns-then-are_plain-2-clause-exact c =
    let on = plain_more c.args.text.now c.loop-i.i 8 (omega (arith, c.if-text-i-ge-FEWER.true, c.loop-i.invariant.within)) (sym c.if-are_plain-2.ensures) in
    omega (arith, on, c.loop-i.invariant.passed)
