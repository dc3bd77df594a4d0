use Rattle.std.proofs.Common.{subst}
use Rattle.cmap_values.specs.Outcomes.{RefusesWith}
use Rattle.cmap_bundle_maker.specs.Slots.{IsBundleOfSlots, places}
use Rattle.cmap_bundle_maker.specs.Unwritables.{AreSound, IsWholeObstacle}
use Rattle.cmap_bundle_maker.proofs.BundleObstacles.{sound_for}
use Rattle.cmap_bundle_maker.proofs.BundlesAlike.{answers_as_texts}
use Rattle.cmap_bundle_maker.proofs.BundlesSure.{no_unwritable_of}
use Rattle.cmap_bundle_maker.proofs.BundlesWritten.{bundle_of_sources}
use Rattle.cmap_bundle_maker.proofs.bundle.make_named_bundle.Goals as goal

pub returns-in-Ok-clause-written : goal.returns-in-Ok-clause-written
returns-in-Ok-clause-written c = let bytes = c.in-Ok.bytes.items in bundle_of_sources c.args.sources.now c.in_ok-slots.slots.items bytes c.in_ok-slots.ensures.all c.in_ok-slots.ensures.made (subst (λ ss. IsBundleOfSlots ss bytes) c.deref.ensures.value (rw c.in-Ok.is at c.bundle_of.ensures.written))

pub returns-in-Ok-clause-alike : goal.returns-in-Ok-clause-alike
returns-in-Ok-clause-alike c = answers_as_texts c.args.sources.now c.in-Ok.bytes.items (returns-in-Ok-clause-written c)

pub returns-clause-err : goal.returns-clause-err
returns-clause-err c =
    let slots = c.in_ok-slots.slots.items in
    let made = c.in_ok-slots.ensures.made in
    let refused = subst (RefusesWith (λ obstacle. AreSound c.deref.result.now → IsWholeObstacle c.deref.result.now obstacle)) c.in-Err-Refused.field-0-is c.in-Err-Refused.ensures.err in
    let holds = subst (λ ss. AreSound ss → IsWholeObstacle ss c.in-Err-Refused.obstacle) c.deref.ensures.value refused in
    (c.in_ok-slots.ensures.all, (slots, made, holds (sound_for c.args.sources.now slots places made)))

pub returns-in-Ok-clause-sure : goal.returns-in-Ok-clause-sure
returns-in-Ok-clause-sure c = let bytes = c.in-Ok.bytes.items in no_unwritable_of c.args.sources.now c.in_ok-slots.slots.items bytes (returns-in-Ok-clause-written c) c.in_ok-slots.ensures.made (subst (λ ss. IsBundleOfSlots ss bytes) c.deref.ensures.value (rw c.in-Ok.is at c.bundle_of.ensures.written))
