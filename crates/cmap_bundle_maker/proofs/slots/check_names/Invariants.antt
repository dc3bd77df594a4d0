use Rattle.std.proofs.Common.{take}
use Rattle.cmap_bundle_maker.specs.Slots.{AllHavePlaces}
use Rattle.cmap_bundle_maker.proofs.slots.check_names.Given as goal

abbrev pub invariant-loop-index : goal.invariant-loop-index
invariant-loop-index l = AllHavePlaces (take l.index l.sources)
