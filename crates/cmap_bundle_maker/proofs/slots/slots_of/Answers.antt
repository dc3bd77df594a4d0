use Rattle.cmap_values.proofs.Outcomes.{refuses_on}
use Rattle.cmap_bundle_maker.proofs.BundleObstacles.{unwritable_of}
use Rattle.cmap_bundle_maker.proofs.slots.slots_of.Goals as goal

pub returns-in_err-slot-clause-err : goal.returns-in_err-slot-clause-err
returns-in_err-slot-clause-err c = refuses_on _ _ c.from_residual-in_err-slot.ensures.1 c.in_err-slot.ensures.err (unwritable_of c.args.sources.now c.loop-place.place c.loop-place.slots.items c.in_ok-check_names.ensures.all c.loop-place.invariant)
