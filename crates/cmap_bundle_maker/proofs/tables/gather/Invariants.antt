use Rattle.std.proofs.Common.{◌≡◌, take}
use Rattle.cmap_bundle_maker.specs.Gathered.{counts_in, deltas_in, segments_in}
use Rattle.cmap_bundle_maker.proofs.tables.gather.Given as goal

abbrev pub invariant-loop-slot : goal.invariant-loop-slot
invariant-loop-slot l =
    (l.symbols.deltas.items ≡ deltas_in (segments_in (take l.slot-index l.slots)))
    × (l.symbols.counts.items ≡ counts_in (segments_in (take l.slot-index l.slots)))
