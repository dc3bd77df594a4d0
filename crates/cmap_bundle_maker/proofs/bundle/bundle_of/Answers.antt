use Rattle.std.proofs.lemmas.Result.{IfErr-weaker}
use Rattle.cmap_values.specs.Outcomes.{RefusesWith}
use Rattle.cmap_values.proofs.Outcomes.{refused_as, refuses_on}
use Rattle.cmap_binary_writer.specs.EncodersSeen.{encoders_seen}
use Rattle.cmap_bundle_maker.specs.Unwritables.{AreSound, IsWholeObstacle}
use Rattle.cmap_bundle_maker.proofs.BundleObstacles.{by_tables, by_word}
use Rattle.cmap_bundle_maker.proofs.bundle.bundle_of.Goals as goal

pub returns-in_err-tables-clause-err : goal.returns-in_err-tables-clause-err
returns-in_err-tables-clause-err c = refuses_on _ _ c.from_residual.ensures.1 (by_word c.args.slots.now _ c.in_err-tables.ensures.err) (λ o h. h)

pub returns-clause-err : goal.returns-clause-err
returns-clause-err c =
    let slots = c.args.slots.now in
    let tables = encoders_seen c.in_ok-tables.tables in
    IfErr-weaker c.bundle_by.result _ (RefusesWith (λ obstacle. AreSound slots → IsWholeObstacle slots obstacle)) (λ fault h. refused_as fault h (by_tables tables slots c.in_ok-tables.ensures.made)) c.bundle_by.ensures.err
