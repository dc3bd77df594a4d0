use Rattle.std.proofs.Common.{◌≡◌, ◌++◌, take}
use Rattle.cmap_bundle_maker.specs.Gathered.{counts_in, deltas_in}
use Rattle.cmap_bundle_maker.proofs.tables.Symbols.add_segments.Given as goal

abbrev pub invariant-loop-segment : goal.invariant-loop-segment
invariant-loop-segment l =
    (l.self.deltas.items ≡ l.initial.self.deltas.items ++ deltas_in (take l.segment-index l.segments))
    × (l.self.counts.items ≡ l.initial.self.counts.items ++ counts_in (take l.segment-index l.segments))
