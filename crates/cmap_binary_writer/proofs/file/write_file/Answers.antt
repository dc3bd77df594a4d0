use Rattle.std.proofs.lemmas.Result.{IfOk-from_err, IfOk-weaker}
use Rattle.cmap_values.proofs.Outcomes.{passed_on, refused_on}
use Rattle.cmap_values.specs.FilesSeen.{file_seen}
use Rattle.cmap_binary_writer.specs.EncodersSeen.{encoders_seen}
use Rattle.cmap_binary_writer.proofs.EncodedAlone.{no_obstacle}
use Rattle.cmap_binary_writer.proofs.ObstaclesMet.{both_ok, by_file, unspelled}
use Rattle.cmap_binary_writer.proofs.file.write_file.Goals as goal

pub returns-clause-written : goal.returns-clause-written
returns-clause-written c =
    let tables = encoders_seen c.args.tables.now in
    let file = file_seen c.args.file.now in
    let prepared = c.in_ok-prepared.prepared in
    let for = c.in_ok-prepared.ensures.0 in
    (both_ok c.write.result c.write.ensures.encoded c.write.ensures.written (λ bytes encoded written. ((prepared, for, encoded), written file for.says)), refused_on c.write.result c.write.ensures.err (unspelled tables file prepared for))

pub returns-in_err-prepared-clause-written : goal.returns-in_err-prepared-clause-written
returns-in_err-prepared-clause-written c = passed_on _ _ _ c.from_residual.ensures.1 c.in_err-prepared.ensures.1 (by_file (encoders_seen c.args.tables.now) (file_seen c.args.file.now))

pub returns-clause-none : goal.returns-clause-none
returns-clause-none c =
    let prepared = c.in_ok-prepared.prepared in
    IfOk-weaker c.write.result _ _ (λ bytes encoded. no_obstacle (encoders_seen c.args.tables.now) (file_seen c.args.file.now) bytes.items (prepared, c.in_ok-prepared.ensures.0, encoded)) c.write.ensures.encoded

pub returns-in_err-prepared-clause-none : goal.returns-in_err-prepared-clause-none
returns-in_err-prepared-clause-none c = IfOk-from_err _ _ c.from_residual.ensures.0
