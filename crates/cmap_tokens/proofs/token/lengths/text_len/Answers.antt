use Rattle.std.proofs.Common.{◌≡◌, ◌+◌, ◌<◌, ◌≤◌, get_or, drop, Some, ap, ◌∙◌, arith}
use Rattle.std.proofs.lemmas.Bool.Decides.{nat_tests}
use Rattle.cmap_tokens.specs.Tokens.{Inside, after_byte}
use Rattle.cmap_tokens.specs.TokenReading.{one_more, text_len}
use Rattle.cmap_tokens.proofs.StringLengths.{closed_here, count_step, never_closed}
use Rattle.cmap_tokens.proofs.token.lengths.text_len.Goals as goal

pub loop-i-preserved : goal.loop-i-preserved
loop-i-preserved c =
    let text = c.args.text.now in
    let i = c.loop-i.i in
    let state : Inside = record { escaped = c.loop-i.escaped; depth = c.loop-i.depth } in
    let next : Inside = record { escaped = c.if-escaped.escaped; depth = c.if-escaped.depth } in
    let step : (0 < next.depth) × (next.depth ≤ 1 + (i + 1)) × (after_byte state (get_or text i 0) ≡ Some next) = grind (arith, nat_tests) in
    record { inside = step.0; within = step.1; rest = count_step (text_len (Some state)) text i _ c.loop-i-test.true (ap (λ o. one_more (text_len o (drop (i + 1) text))) step.2) ∙ c.loop-i.invariant.rest }

pub returns-in-41-clause-exact : goal.returns-in-41-clause-exact
returns-in-41-clause-exact c = closed_here c.args.text.now c.loop-i.i c.loop-i.depth c.loop-i.escaped _ c.loop-i-test.true c.in-41.is c.if-depth-eq1.true c.if-escaped.false c.loop-i.invariant.rest

pub returns : goal.returns
returns c = record { exact = never_closed c.args.text.now c.loop-i.i (record { escaped = c.loop-i.escaped; depth = c.loop-i.depth }) _ c.loop-i-test.false c.loop-i.invariant.rest; within = tt }
