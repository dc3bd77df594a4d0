use Rattle.std.proofs.Common.{◌∙◌, ◌++◌, ◌-◌, ap, arith, map}
use Rattle.std.proofs.lemmas.Result.{IfOk-from_err}
use Rattle.cmap_binary_writer.specs.Held.{counts_of}
use Rattle.cmap_binary_writer.proofs.ColumnsMade.{count_more, counts_done, next_shaped}
use Rattle.cmap_binary_writer.proofs.columns.range_counts.Goals as goal

pub loop-entry-init : goal.loop-entry-init
loop-entry-init g c = record { shape = c.requires; counts = ap (λ ns. ns ++ counts_of (map g.T.HasRange.span c.args.entries.now)) c.in_ok-counts.ensures.items }

pub overflow_sub-range : goal.overflow_sub-range
overflow_sub-range g c =
    let shaped = next_shaped g.T.HasRange.span c.args.entries.now c.loop-entry.entry-index c.entry-item.result c.loop-entry-test.true c.entry-item.is c.loop-entry.invariant.shape in
    omega (arith, shaped.0, c.range-range.ensures.start, c.range-range.ensures.end)

pub overflow_sub-range-in-loop-entry : goal.overflow_sub-range-in-loop-entry
overflow_sub-range-in-loop-entry g c =
    let shaped = next_shaped g.T.HasRange.span c.args.entries.now c.loop-entry.entry-index c.entry-item.result c.loop-entry-test.true c.entry-item.is c.loop-entry.invariant.shape in
    omega (arith, shaped.0, c.range-range.ensures.start, c.range-range.ensures.end)

pub loop-entry-preserved : goal.loop-entry-preserved
loop-entry-preserved g c =
    let span = g.T.HasRange.span in
    let entries = c.args.entries.now in
    let i = c.loop-entry.entry-index in
    let entry = c.entry-item.result in
    record {
      shape = (next_shaped span entries i entry c.loop-entry-test.true c.entry-item.is c.loop-entry.invariant.shape).1;
      counts = count_more span entries i entry c.loop-entry-test.true c.entry-item.is _ c.loop-entry.counts.items c.push.new.self.items (ap (λ end. end - c.range-range.result.now.start - 1) c.range-range.ensures.end ∙ ap (λ start. (span entry).end - start - 1) c.range-range.ensures.start) c.in_ok-push.ensures.items c.loop-entry.invariant.counts;
    }

pub returns : goal.returns
returns g c = counts_done g.T.HasRange.span c.args.entries.now c.loop-entry.entry-index c.loop-entry.counts.items c.loop-entry-test.false c.loop-entry.invariant.counts

pub returns-in_err-counts : goal.returns-in_err-counts
returns-in_err-counts g c = IfOk-from_err _ _ c.from_residual.ensures.0

pub returns-in_err-push : goal.returns-in_err-push
returns-in_err-push g c = IfOk-from_err _ _ c.from_residual-in_err-push.ensures.0
