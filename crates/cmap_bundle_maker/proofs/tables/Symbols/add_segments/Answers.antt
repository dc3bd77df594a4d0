use Rattle.std.proofs.Common.{◌++◌, ap, ◌∙◌}
use Rattle.cmap_binary_writer.proofs.RowsAdded.{rows_done, rows_more}
use Rattle.cmap_bundle_maker.proofs.tables.Symbols.add_segments.Goals as goal

pub loop-segment-preserved : goal.loop-segment-preserved
loop-segment-preserved c =
    let segments = c.args.segments.now in
    let i = c.loop-segment.segment-index in
    let deltas = c.loop-segment.self.deltas.items in
    let counts = c.loop-segment.self.counts.items in
    let old = c.args.self.now in (
      rows_more (λ s. s.deltas.items) segments i old.deltas.items deltas c.segment-item.result _ c.loop-segment-test.true c.loop-segment.invariant.0 (c.in_ok-extend_from_slice.ensures.items ∙ ap (λ ns. deltas ++ ns) c.deref.ensures.value ∙ ap (λ s. deltas ++ s.deltas.items) c.segment-item.is),
      rows_more (λ s. s.counts.items) segments i old.counts.items counts c.segment-item.result _ c.loop-segment-test.true c.loop-segment.invariant.1 (c.in_ok-extend_from_slice-2.ensures.items ∙ ap (λ ns. counts ++ ns) c.deref-in-loop-segment.ensures.value ∙ ap (λ s. counts ++ s.counts.items) c.segment-item.is),
    )

pub returns-clause-deltas : goal.returns-clause-deltas
returns-clause-deltas c = rows_done (λ s. s.deltas.items) c.args.segments.now c.loop-segment.segment-index c.args.self.now.deltas.items c.loop-segment.self.deltas.items c.loop-segment-test.false c.loop-segment.invariant.0

pub returns-clause-counts : goal.returns-clause-counts
returns-clause-counts c = rows_done (λ s. s.counts.items) c.args.segments.now c.loop-segment.segment-index c.args.self.now.counts.items c.loop-segment.self.counts.items c.loop-segment-test.false c.loop-segment.invariant.1
