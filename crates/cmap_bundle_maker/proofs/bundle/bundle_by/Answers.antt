use Rattle.std.proofs.Common.{[], length, ap, subst, arith}
use Rattle.cmap_values.proofs.Outcomes.{refuses_on}
use Rattle.cmap_binary.specs.Fronts.{SizedAt}
use Rattle.cmap_binary_writer.specs.EncodersSeen.{encoders_seen}
use Rattle.cmap_binary_writer.specs.Written.{Appends, IsSized, Writes}
use Rattle.cmap_binary_writer.proofs.FrontsWritten.{sized_read}
use Rattle.cmap_binary_writer.proofs.ObstaclesMet.{never_long}
use Rattle.cmap_bundle_maker.proofs.BundleObstacles.{by_slots}
use Rattle.cmap_bundle_maker.proofs.BundlesWritten.{bundle_written}
use Rattle.cmap_bundle_maker.proofs.bundle.bundle_by.Goals as goal

pub returns-clause-written : goal.returns-clause-written
returns-clause-written c =
    let text = c.in_ok-text.text.items in
    let mid = c.push_sized.new.out.items in
    let (front, appended_front, is_sized) = subst (λ old. Appends old mid (IsSized text)) c.new-bytes.ensures.items (subst (λ p. Appends c.new-bytes.result.items mid (IsSized p)) c.deref.ensures.value c.in_ok-push_sized.ensures.written) in
    let sized : Appends [] mid (Writes SizedAt text) = (front, appended_front, sized_read text front is_sized) in
    let (texts, appended, each) = c.in_ok-push_slots.ensures.written in
    bundle_written (encoders_seen c.args.tables.now) c.args.slots.now text mid c.push_slots.new.out.items c.in_ok-text.ensures.written sized texts appended each c.requires.spelled c.requires.alone

pub returns-in_err-text-clause-err : goal.returns-in_err-text-clause-err
returns-in_err-text-clause-err c = never_long _ _ _ _ c.from_residual.ensures.1 c.in_err-text.ensures.err (λ long. long)

pub returns-in_err-push_sized-clause-err : goal.returns-in_err-push_sized-clause-err
returns-in_err-push_sized-clause-err c = never_long _ _ _ _ c.from_residual-in_err-push_sized.ensures.1 c.in_err-push_sized.ensures.err (λ long. omega (arith, long, c.in_ok-text.ensures.len, ap length c.deref.ensures.value))

pub returns-in_err-push_slots-clause-err : goal.returns-in_err-push_slots-clause-err
returns-in_err-push_slots-clause-err c = refuses_on _ _ c.from_residual-in_err-push_slots.ensures.1 c.in_err-push_slots.ensures.err (by_slots (encoders_seen c.args.tables.now) c.args.slots.now)
