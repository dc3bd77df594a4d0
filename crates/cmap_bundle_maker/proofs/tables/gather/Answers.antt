use Rattle.std.proofs.Common.{ap, ◌∙◌}
use Rattle.std.proofs.lemmas.List.{take_all}
use Rattle.cmap_bundle_maker.specs.Gathered.{counts_in, deltas_in, segments_in}
use Rattle.cmap_bundle_maker.proofs.NumbersGathered.{gathered_more}
use Rattle.cmap_bundle_maker.proofs.tables.gather.Goals as goal

pub loop-slot-preserved : goal.loop-slot-preserved
loop-slot-preserved c =
    let slots = c.args.slots.now in
    let i = c.loop-slot.slot-index in
    let segments = c.segments_of.result.now in
    let symbols = c.loop-slot.symbols in (
      gathered_more (λ s. s.deltas.items) slots i c.slot-item.result segments symbols.deltas.items _ c.loop-slot-test.true c.slot-item.is c.segments_of.ensures c.loop-slot.invariant.0 c.in_ok-add_segments.ensures.deltas,
      gathered_more (λ s. s.counts.items) slots i c.slot-item.result segments symbols.counts.items _ c.loop-slot-test.true c.slot-item.is c.segments_of.ensures c.loop-slot.invariant.1 c.in_ok-add_segments.ensures.counts,
    )

pub returns-clause-deltas : goal.returns-clause-deltas
returns-clause-deltas c = c.loop-slot.invariant.0 ∙ ap (λ slots. deltas_in (segments_in slots)) (take_all c.loop-slot.slot-index c.args.slots.now c.loop-slot-test.false)

pub returns-clause-counts : goal.returns-clause-counts
returns-clause-counts c = c.loop-slot.invariant.1 ∙ ap (λ slots. counts_in (segments_in slots)) (take_all c.loop-slot.slot-index c.args.slots.now c.loop-slot-test.false)
