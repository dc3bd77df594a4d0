use Rattle.std.proofs.Common.{length, ap, arith, subst, sym}
use Rattle.std.proofs.lemmas.List.{take_all}
use Rattle.std.proofs.lemmas.Result.{IfOk-from_err}
use Rattle.cmap_binary_writer.specs.EncodersSeen.{encoders_seen}
use Rattle.cmap_binary_writer.specs.Segments.{AreSegmentBytes, IsPayloadOf}
use Rattle.cmap_binary_writer.specs.Written.{Appends}
use Rattle.cmap_binary_writer.proofs.SegmentsAdded.{WrittenWhere, bytes_more, bytes_none, written_more, written_none}
use Rattle.cmap_values.proofs.Outcomes.{refuses_on}
use Rattle.cmap_binary_writer.proofs.ObstaclesMet.{large_among, large_payload, segment_among, too_long}
use Rattle.cmap_binary_writer.proofs.segments.push_segments.Goals as goal

pub loop-segment-preserved : goal.loop-segment-preserved
loop-segment-preserved c =
    let tables = encoders_seen c.args.tables.now in
    let s = c.segment-item.result in
    let payload = subst (IsPayloadOf tables s) (sym c.deref.ensures.value) c.in_ok-payload.ensures.written in
    record {
      written = written_more tables c.args.segments.now c.loop-segment.segment-index s c.args.out.now.items c.loop-segment.out.items c.push_segment.new.out.items c.deref.result.now (omega arith) c.segment-item.is c.loop-segment.invariant.written payload c.in_ok-push_segment.ensures.written;
      bytes = bytes_more tables c.args.segments.now c.loop-segment.segment-index s c.args.out.now.items c.loop-segment.out.items c.push_segment.new.out.items c.deref.result.now (omega arith) c.segment-item.is c.loop-segment.invariant.bytes payload c.in_ok-push_segment.ensures.framed;
    }

pub returns-in_err-payload-clause-err : goal.returns-in_err-payload-clause-err
returns-in_err-payload-clause-err c = refuses_on _ _ c.from_residual.ensures.1 c.in_err-payload.ensures.err (segment_among (encoders_seen c.args.tables.now) c.args.segments.now c.loop-segment.segment-index c.segment-item.result (omega arith) c.segment-item.is)

pub loop-segment-init : goal.loop-segment-init
loop-segment-init c = record { written = written_none (encoders_seen c.args.tables.now) c.args.out.now.items; bytes = bytes_none (encoders_seen c.args.tables.now) c.args.out.now.items }

pub returns-clause-written : goal.returns-clause-written
returns-clause-written c = subst (λ segments. WrittenWhere (encoders_seen c.args.tables.now) segments c.args.out.now.items c.loop-segment.out.items) (take_all c.loop-segment.segment-index c.args.segments.now c.loop-segment-test.false) c.loop-segment.invariant.written

pub returns-in_err-payload-clause-written : goal.returns-in_err-payload-clause-written
returns-in_err-payload-clause-written c = IfOk-from_err _ _ c.from_residual.ensures.0

pub returns-in_err-push_segment-clause-written : goal.returns-in_err-push_segment-clause-written
returns-in_err-push_segment-clause-written c = IfOk-from_err _ _ c.from_residual-in_err-push_segment.ensures.0

pub returns-in_err-push_segment-clause-err : goal.returns-in_err-push_segment-clause-err
returns-in_err-push_segment-clause-err c = too_long _ _ _ _ c.from_residual-in_err-push_segment.ensures.1 c.in_err-push_segment.ensures.err (λ long.
    let s = c.segment-item.result in
    large_among c.args.segments.now c.loop-segment.segment-index s (omega arith) c.segment-item.is (large_payload s (length c.deref.result.now) (omega (arith, ap length c.deref.ensures.value, c.in_ok-payload.ensures.len)) long))

pub returns-in_err-payload-clause-bytes : goal.returns-in_err-payload-clause-bytes
returns-in_err-payload-clause-bytes c = IfOk-from_err _ _ c.from_residual.ensures.0

pub returns-in_err-push_segment-clause-bytes : goal.returns-in_err-push_segment-clause-bytes
returns-in_err-push_segment-clause-bytes c = IfOk-from_err _ _ c.from_residual-in_err-push_segment.ensures.0

pub returns-clause-bytes : goal.returns-clause-bytes
returns-clause-bytes c = subst (λ segments. Appends c.args.out.now.items c.loop-segment.out.items (AreSegmentBytes (encoders_seen c.args.tables.now) segments)) (take_all c.loop-segment.segment-index c.args.segments.now c.loop-segment-test.false) c.loop-segment.invariant.bytes
