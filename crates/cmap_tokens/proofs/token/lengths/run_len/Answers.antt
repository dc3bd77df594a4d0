use Rattle.std.proofs.Common.{sym}
use Rattle.cmap_tokens.specs.Bytes.{is_regular}
use Rattle.cmap_tokens.proofs.BytesPassed.{prefix_all, prefix_here, prefix_more}
use Rattle.cmap_tokens.proofs.token.lengths.run_len.Goals as goal

pub returns-then-not-is_regular-clause-exact : goal.returns-then-not-is_regular-clause-exact
returns-then-not-is_regular-clause-exact c = prefix_here is_regular c.args.text.now c.loop-i.i _ c.loop-i-test.true (sym c.if-not-is_regular.ensures) c.loop-i.invariant

pub loop-i-preserved : goal.loop-i-preserved
loop-i-preserved c = prefix_more is_regular c.args.text.now c.loop-i.i _ c.loop-i-test.true (sym c.if-not-is_regular.ensures) c.loop-i.invariant

pub returns-clause-exact : goal.returns-clause-exact
returns-clause-exact c = prefix_all is_regular c.args.text.now c.loop-i.i _ c.loop-i.auto.i-end c.loop-i-test.false c.loop-i.invariant
