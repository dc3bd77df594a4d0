use Rattle.std.proofs.Common.{false, sym, ap, arith}
use Rattle.std.proofs.lemmas.Bool.{ne_eqb}
use Rattle.std.proofs.lemmas.List.{drop_all}
use Rattle.cmap_tokens.specs.TokenReading.{gap_len}
use Rattle.cmap_tokens.proofs.Gaps.{comment_passed, gap_ends, white_passed}
use Rattle.cmap_tokens.proofs.token.gaps.gap_len.Goals as goal

pub loop-i-preserved-then-is_white : goal.loop-i-preserved-then-is_white
loop-i-preserved-then-is_white c = record {
  within = omega arith;
  rest = omega (arith, white_passed c.args.text.now c.loop-i.i c.loop-i-test.true (sym c.if-is_white.ensures), c.loop-i.invariant.rest);
}

pub loop-i-preserved : goal.loop-i-preserved
loop-i-preserved c =
    let passed = comment_passed c.args.text.now c.loop-i.i c.comment_len.result c.loop-i-test.true c.if-byte-eq37.true c.comment_len.ensures.exact in
    record {
      within = omega (arith, c.comment_len.ensures.within);
      rest = omega (arith, passed, c.loop-i.invariant.rest);
    }

pub returns-else-byte-eq37-clause-exact : goal.returns-else-byte-eq37-clause-exact
returns-else-byte-eq37-clause-exact c =
    omega (arith, gap_ends c.args.text.now c.loop-i.i c.loop-i-test.true (sym c.if-is_white.ensures) (ne_eqb _ 37 c.if-byte-eq37.false), c.loop-i.invariant.rest)

pub returns-clause-exact : goal.returns-clause-exact
returns-clause-exact c = omega (arith, ap (gap_len false) (drop_all c.loop-i.i c.args.text.now c.loop-i-test.false), c.loop-i.invariant.rest)
