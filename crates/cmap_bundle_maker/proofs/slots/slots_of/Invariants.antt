use Rattle.cmap_bundle_maker.specs.Slots.{AreSlotsFor}
use Rattle.cmap_bundle_maker.proofs.slots.slots_of.Given as goal

abbrev pub invariant-loop-place : goal.invariant-loop-place
invariant-loop-place l = AreSlotsFor l.sources l.slots.items l.place
