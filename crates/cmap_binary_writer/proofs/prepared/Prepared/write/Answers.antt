use Rattle.std.proofs.Common.{◌∙◌, ◌≡◌, ◌+◌, ◌++◌, inr, length, ap, subst, sym, arith}
use Rattle.std.proofs.lemmas.List.{length-append}
use Rattle.std.proofs.lemmas.Result.{IfOk-from_err}
use Rattle.cmap_binary_writer.specs.EncodersSeen.{encoders_seen}
use Rattle.cmap_binary_writer.specs.Written.{Appends, IsFramed}
use Rattle.cmap_binary_writer.proofs.FileKept.{head}
use Rattle.cmap_values.proofs.Outcomes.{memory_on, refuses_on}
use Rattle.cmap_binary_writer.specs.Obstacles.{IsSegmentsObstacle}
use Rattle.cmap_binary_writer.specs.Segments.{AreSegmentBytes}
use Rattle.cmap_binary_writer.proofs.ObstaclesMet.{by_segments, too_long}
use Rattle.cmap_binary_writer.proofs.PreparedKept.{file_framed, file_written}
use Rattle.cmap_binary_writer.proofs.SegmentsAdded.{WrittenWhere}
use Rattle.cmap_binary_writer.proofs.prepared.Prepared.write.Goals as goal

pub returns-clause-encoded : goal.returns-clause-encoded
returns-clause-encoded c =
    let tables = encoders_seen c.args.tables.now in
    let prepared = c.args.self.now in
    let (segments, is, are) = c.in_ok-push_segments.ensures.bytes in
    let body : c.push_segments.new.out.items ≡ prepared.fields.items ++ segments = is ∙ ap (λ bs. bs ++ segments) (c.in_ok-body.ensures.items ∙ c.deref.ensures.value) in
    let bytes = c.push_framed.new.out.items in
    let (framed, appended, frame) = subst (λ old. Appends old bytes (IsFramed head c.deref-3.result.now)) c.new-bytes.ensures.items c.in_ok-push_framed.ensures.written in
    record {
      segments = segments;
      are = subst (λ ss. AreSegmentBytes tables ss segments) c.deref-2.ensures.value are;
      framed = subst (IsFramed head (prepared.fields.items ++ segments)) (sym appended) (subst (λ p. IsFramed head p framed) (c.deref-3.ensures.value ∙ body) frame);
    }

pub returns-in_err-body-clause-encoded : goal.returns-in_err-body-clause-encoded
returns-in_err-body-clause-encoded c = IfOk-from_err _ _ c.from_residual.ensures.0

pub returns-in_err-push_segments-clause-encoded : goal.returns-in_err-push_segments-clause-encoded
returns-in_err-push_segments-clause-encoded c = IfOk-from_err _ _ c.from_residual-in_err-push_segments.ensures.0

pub returns-in_err-push_framed-clause-encoded : goal.returns-in_err-push_framed-clause-encoded
returns-in_err-push_framed-clause-encoded c = IfOk-from_err _ _ c.from_residual-in_err-push_framed.ensures.0

pub returns-clause-framed : goal.returns-clause-framed
returns-clause-framed c =
    let body = c.push_segments.new.out.items in
    let bytes = c.push_framed.new.out.items in
    let framed : Appends c.new-bytes.result.items bytes (IsFramed head body) = subst (λ p. Appends c.new-bytes.result.items bytes (IsFramed head p)) c.deref-3.ensures.value c.in_ok-push_framed.ensures.written in
    file_framed body bytes (subst (λ old. Appends old bytes (IsFramed head body)) c.new-bytes.ensures.items framed)

pub returns-clause-written : goal.returns-clause-written
returns-clause-written c file h =
    let tables = encoders_seen c.args.tables.now in
    let prepared = c.args.self.now in
    let body = c.push_segments.new.out.items in
    let bytes = c.push_framed.new.out.items in
    let mid : c.in_ok-body.body.items ≡ prepared.fields.items = c.in_ok-body.ensures.items ∙ c.deref.ensures.value in
    let written : WrittenWhere tables prepared.segments.items prepared.fields.items body = subst (λ old. WrittenWhere tables prepared.segments.items old body) mid (subst (λ ss. WrittenWhere tables ss c.in_ok-body.body.items body) c.deref-2.ensures.value c.in_ok-push_segments.ensures.written) in
    let framed : Appends c.new-bytes.result.items bytes (IsFramed head body) = subst (λ p. Appends c.new-bytes.result.items bytes (IsFramed head p)) c.deref-3.ensures.value c.in_ok-push_framed.ensures.written in
    file_written tables file prepared body bytes h written (subst (λ old. Appends old bytes (IsFramed head body)) c.new-bytes.ensures.items framed)

pub returns-in_err-body-clause-err : goal.returns-in_err-body-clause-err
returns-in_err-body-clause-err c = memory_on _ _ c.from_residual.ensures.1

pub returns-in_err-push_segments-clause-err : goal.returns-in_err-push_segments-clause-err
returns-in_err-push_segments-clause-err c = refuses_on _ _ c.from_residual-in_err-push_segments.ensures.1 c.in_err-push_segments.ensures.err (λ o h. by_segments (encoders_seen c.args.tables.now) c.args.self.now o (subst (λ ss. IsSegmentsObstacle (encoders_seen c.args.tables.now) ss o) c.deref-2.ensures.value h))

pub returns-in_err-push_framed-clause-err : goal.returns-in_err-push_framed-clause-err
returns-in_err-push_framed-clause-err c = too_long _ _ _ _ c.from_residual-in_err-push_framed.ensures.1 c.in_err-push_framed.ensures.err (λ long.
    let (bytes, is, are) = c.in_ok-push_segments.ensures.bytes in
    let body : length c.push_segments.new.out.items ≡ length c.in_ok-body.body.items + length bytes = ap length is ∙ length-append c.in_ok-body.body.items bytes in
    inr (record {
      bytes = bytes;
      are = subst (λ ss. AreSegmentBytes (encoders_seen c.args.tables.now) ss bytes) c.deref-2.ensures.value are;
      long = omega (arith, long, body, ap length c.deref-3.ensures.value, ap length c.in_ok-body.ensures.items, ap length c.deref.ensures.value);
    }))

pub returns-in_err-body-clause-framed : goal.returns-in_err-body-clause-framed
returns-in_err-body-clause-framed c = IfOk-from_err _ _ c.from_residual.ensures.0

pub returns-in_err-body-clause-written : goal.returns-in_err-body-clause-written
returns-in_err-body-clause-written c = IfOk-from_err _ _ c.from_residual.ensures.0

pub returns-in_err-push_segments-clause-framed : goal.returns-in_err-push_segments-clause-framed
returns-in_err-push_segments-clause-framed c = IfOk-from_err _ _ c.from_residual-in_err-push_segments.ensures.0

pub returns-in_err-push_segments-clause-written : goal.returns-in_err-push_segments-clause-written
returns-in_err-push_segments-clause-written c = IfOk-from_err _ _ c.from_residual-in_err-push_segments.ensures.0

pub returns-in_err-push_framed-clause-framed : goal.returns-in_err-push_framed-clause-framed
returns-in_err-push_framed-clause-framed c = IfOk-from_err _ _ c.from_residual-in_err-push_framed.ensures.0

pub returns-in_err-push_framed-clause-written : goal.returns-in_err-push_framed-clause-written
returns-in_err-push_framed-clause-written c = IfOk-from_err _ _ c.from_residual-in_err-push_framed.ensures.0
