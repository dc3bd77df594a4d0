use Rattle.std.proofs.Common.{◌∙◌, ◌++◌, ap, inr, subst, sym}
use Rattle.std.specs.Prelude.{IfOk}
use Rattle.cmap_binary_writer.specs.EncodersSeen.{encoders_seen}
use Rattle.cmap_bundle_maker.specs.Slots.{IsSlotWritten}
use Rattle.cmap_bundle_maker.specs.Unwritables.{IsSlotObstacle}
use Rattle.cmap_binary_writer.specs.Written.{Appends}
use Rattle.cmap_values.proofs.Outcomes.{refuses_on}
use Rattle.cmap_binary_writer.proofs.ObstaclesMet.{both_ok, too_long_of}
use Rattle.cmap_bundle_maker.proofs.BundleObstacles.{by_prepared}
use Rattle.cmap_binary_writer.specs.declared.obstacle.Obstacle.TheVariants.{TooLong}
use Rattle.cmap_bundle_maker.proofs.slots.push_slot.Goals as goal

pub returns-in_ok-extend_from_slice-in-File-clause-written : goal.returns-in_ok-extend_from_slice-in-File-clause-written
returns-in_ok-extend_from_slice-in-File-clause-written c =
    let tables = encoders_seen c.args.tables.now in
    let text = c.in_ok-text-in-File.text.items in
    let old = c.args.out.now.items in
    let e = c.in_ok-text-in-File.ensures in
    (text, c.in_ok-extend_from_slice-in-File.ensures.items ∙ ap (λ bs. old ++ bs) c.deref.ensures.value, subst (λ s. IsSlotWritten tables s text) (sym c.in-File.is) (e.encoded, e.framed, e.written))

pub returns-in-Text-clause-written : goal.returns-in-Text-clause-written
returns-in-Text-clause-written c =
    subst (λ s. IfOk c.push_text.result (λ _. Appends c.args.out.now.items c.push_text.new.out.items (IsSlotWritten (encoders_seen c.args.tables.now) s))) (sym c.in-Text.is)
    (both_ok c.push_text.result c.push_text.ensures.written c.push_text.ensures.short (λ done written short. let (bytes, is, behind) = written in (bytes, is, (behind, short))))

pub returns-in_err-text-in-File-clause-err : goal.returns-in_err-text-in-File-clause-err
returns-in_err-text-in-File-clause-err c = refuses_on _ _ c.from_residual.ensures.1 c.in_err-text-in-File.ensures.err (λ o h. subst (λ s. IsSlotObstacle (encoders_seen c.args.tables.now) s o) (sym c.in-File.is) (by_prepared (encoders_seen c.args.tables.now) c.in-File.prepared o h))

pub returns-in-Text-clause-err : goal.returns-in-Text-clause-err
returns-in-Text-clause-err c = too_long_of _ (IsSlotObstacle (encoders_seen c.args.tables.now) c.args.slot.now) c.push_text.result c.push_text.ensures.err (λ long. subst (λ s. IsSlotObstacle (encoders_seen c.args.tables.now) s TooLong) (sym c.in-Text.is) (inr long))
