use Rattle.std.proofs.Common.{◌∙◌, ◌++◌, ◌+◌, ◌-◌, ap, arith, map}
use Rattle.std.proofs.lemmas.Result.{IfOk-from_err}
use Rattle.cmap_binary_writer.specs.Held.{deltas_of}
use Rattle.cmap_binary_writer.proofs.ColumnsMade.{delta_more, deltas_done, next_ordered, ordered_more}
use Rattle.cmap_binary_writer.proofs.columns.deltas.Goals as goal

pub loop-entry-init : goal.loop-entry-init
loop-entry-init g c = record { order = c.requires; deltas = ap (λ ns. ns ++ deltas_of 0 (map g.T.HasRange.span c.args.entries.now)) c.in_ok-deltas.ensures.items }

pub overflow_sub-from : goal.overflow_sub-from
overflow_sub-from g c =
    let ordered = next_ordered g.T.HasRange.span c.args.entries.now c.loop-entry.entry-index c.entry-item.result c.loop-entry-test.true c.entry-item.is c.loop-entry.base c.loop-entry.invariant.order in
    omega (arith, ordered.0, c.from.ensures, c.range-range.ensures.start)

pub overflow_cast-from : goal.overflow_cast-from
overflow_cast-from g c =
    let ordered = next_ordered g.T.HasRange.span c.args.entries.now c.loop-entry.entry-index c.entry-item.result c.loop-entry-test.true c.entry-item.is c.loop-entry.base c.loop-entry.invariant.order in
    omega (arith, ordered.1, ordered.2, c.from.ensures, c.range-range.ensures.start)

pub overflow_add-base : goal.overflow_add-base
overflow_add-base g c =
    let ordered = next_ordered g.T.HasRange.span c.args.entries.now c.loop-entry.entry-index c.entry-item.result c.loop-entry-test.true c.entry-item.is c.loop-entry.base c.loop-entry.invariant.order in
    omega (arith, ordered.2, c.from-base.ensures, c.range-range.ensures.end)

pub loop-entry-preserved : goal.loop-entry-preserved
loop-entry-preserved g c =
    let span = g.T.HasRange.span in
    let entries = c.args.entries.now in
    let i = c.loop-entry.entry-index in
    let entry = c.entry-item.result in
    let base = c.loop-entry.base in
    let next = ap (λ end. end + 1) (c.from-base.ensures ∙ c.range-range.ensures.end) in
    record {
      order = ordered_more span entries i entry c.loop-entry-test.true c.entry-item.is base _ next c.loop-entry.invariant.order;
      deltas = delta_more span entries i entry c.loop-entry-test.true c.entry-item.is base _ _ c.loop-entry.deltas.items c.push.new.self.items next (ap (λ start. start - base) (c.from.ensures ∙ c.range-range.ensures.start)) c.in_ok-push.ensures.items c.loop-entry.invariant.deltas;
    }

pub returns : goal.returns
returns g c = deltas_done g.T.HasRange.span c.args.entries.now c.loop-entry.entry-index c.loop-entry.base c.loop-entry.deltas.items c.loop-entry-test.false c.loop-entry.invariant.deltas

pub returns-in_err-deltas : goal.returns-in_err-deltas
returns-in_err-deltas g c = IfOk-from_err _ _ c.from_residual.ensures.0

pub returns-in_err-push : goal.returns-in_err-push
returns-in_err-push g c = IfOk-from_err _ _ c.from_residual-in_err-push.ensures.0
