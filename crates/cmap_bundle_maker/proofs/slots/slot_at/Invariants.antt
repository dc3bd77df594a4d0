use Rattle.std.proofs.Common.{◌≡◌, None, drop, take}
use Rattle.cmap_bundle_maker.specs.Slots.{source_at}
use Rattle.cmap_bundle_maker.proofs.slots.slot_at.Given as goal

abbrev pub invariant-loop-index : goal.invariant-loop-index
invariant-loop-index l = (source_at l.sources l.place ≡ source_at (drop l.index l.sources) l.place) × (source_at (take l.index l.sources) l.place ≡ None)
