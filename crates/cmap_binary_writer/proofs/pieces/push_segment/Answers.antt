use Rattle.std.proofs.Common.{[], ◌∷◌}
use Rattle.std.proofs.lemmas.Result.{IfOk-weaker}
use Rattle.cmap_binary_writer.specs.Written.{Appends, IsFramed}
use Rattle.cmap_binary_writer.proofs.FrontsWritten.{SaysSegment, SegmentAt-written}
use Rattle.cmap_binary_writer.proofs.pieces.push_segment.Goals as goal

pub returns-clause-written : goal.returns-clause-written
returns-clause-written c =
    let number = c.args.number in
    let payload = c.args.payload.now in
    let appends = Appends c.args.out.now.items c.push_framed.new.out.items in
    IfOk-weaker c.push_framed.result (λ x. appends (IsFramed (number ∷ []) payload)) (λ x. appends (SaysSegment number payload))
    (λ x appended. let (bytes, new_is, framed) = appended in (bytes, new_is, SegmentAt-written number payload bytes framed)) c.push_framed.ensures.written
