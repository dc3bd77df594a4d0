use Rattle.std.proofs.Common.{◌∙◌, ◌≡◌, ◌++◌, map, ap, sym, subst}
use Rattle.std.proofs.lemmas.Result.{IfOk-from_err}
use Rattle.cmap_values.specs.CodeLengths.{length_of}
use Rattle.cmap_values.specs.DeclarationsSeen.{entries_seen}
use Rattle.cmap_values.specs.Files.{Declaration}
use Rattle.cmap_binary.specs.BinaryFiles.{IsSegment, declares}
use Rattle.cmap_binary_writer.specs.EncodersSeen.{shape_seen}
use Rattle.cmap_binary_writer.specs.Held.{AreInOrder, AreShaped, counts_by, deltas_of}
use Rattle.cmap_binary_writer.proofs.Arranged.{holds_cids, segment_said}
use Rattle.cmap_binary_writer.proofs.CidsWritten.{cids}
use Rattle.cmap_binary_writer.proofs.NumbersWritten.{cids_spelled, spans_seen}
use Rattle.cmap_binary_writer.proofs.SegmentNumbers.{segment_of_cids}
use Rattle.cmap_binary_writer.proofs.cids.cid_segment.Goals as goal

pub deltas-requires : goal.deltas-requires
deltas-requires c = subst (AreInOrder 0) (sym (spans_seen c.args.entries.now)) c.requires.order

pub counts-requires : goal.counts-requires
counts-requires c = subst (AreShaped (shape_seen c.args.shape)) (sym (spans_seen c.args.entries.now)) c.requires.shaped

pub returns-clause-says : goal.returns-clause-says
returns-clause-says c =
    let shape = shape_seen c.args.shape in
    let len = c.args.len in
    let es = entries_seen c.args.entries.now in
    let content = declares (map (Declaration.cid (length_of len)) es) in
    let spans = spans_seen c.args.entries.now in
    let deltas = c.in_ok-deltas.ensures ∙ ap (deltas_of 0) spans in
    let counts = c.in_ok-counts.ensures ∙ ap (counts_by shape) spans in
    let values : c.push_raw_cids.new.out.items ≡ cids es = c.in_ok-push_raw_cids.ensures ∙ ap (λ bs. bs ++ cids es) c.in_ok-values.ensures.items in
    segment_of_cids _ (length_of len) es (λ tables payload (columns, spelled, is).
    let within = cids_spelled tables shape es c.in_ok-deltas.field-0.items c.in_ok-counts.field-0.items c.push_raw_cids.new.out.items columns payload c.requires deltas counts values spelled is in
    subst (λ n. IsSegment tables n payload content) (sym c.cid_type-number.ensures) (segment_said tables shape len payload es within)) c.requires deltas counts values

pub returns-clause-holds : goal.returns-clause-holds
returns-clause-holds c =
    let shape = shape_seen c.args.shape in
    let es = entries_seen c.args.entries.now in
    let spans = spans_seen c.args.entries.now in
    holds_cids _ (length_of c.args.len) es c.cid_type-number.ensures c.requires (c.in_ok-deltas.ensures ∙ ap (deltas_of 0) spans) (c.in_ok-counts.ensures ∙ ap (counts_by shape) spans) (c.in_ok-push_raw_cids.ensures ∙ ap (λ bs. bs ++ cids es) c.in_ok-values.ensures.items)

pub returns-in_err-values-clause-says : goal.returns-in_err-values-clause-says
returns-in_err-values-clause-says c = IfOk-from_err _ _ c.from_residual.ensures.0

pub returns-in_err-values-clause-holds : goal.returns-in_err-values-clause-holds
returns-in_err-values-clause-holds c = IfOk-from_err _ _ c.from_residual.ensures.0

pub returns-in_err-push_raw_cids-clause-says : goal.returns-in_err-push_raw_cids-clause-says
returns-in_err-push_raw_cids-clause-says c = IfOk-from_err _ _ c.from_residual-in_err-push_raw_cids.ensures.0

pub returns-in_err-push_raw_cids-clause-holds : goal.returns-in_err-push_raw_cids-clause-holds
returns-in_err-push_raw_cids-clause-holds c = IfOk-from_err _ _ c.from_residual-in_err-push_raw_cids.ensures.0

pub returns-in_err-deltas-clause-says : goal.returns-in_err-deltas-clause-says
returns-in_err-deltas-clause-says c = IfOk-from_err _ _ c.from_residual-in_err-deltas.ensures.0

pub returns-in_err-deltas-clause-holds : goal.returns-in_err-deltas-clause-holds
returns-in_err-deltas-clause-holds c = IfOk-from_err _ _ c.from_residual-in_err-deltas.ensures.0

pub returns-in_err-counts-clause-says : goal.returns-in_err-counts-clause-says
returns-in_err-counts-clause-says c = IfOk-from_err _ _ c.from_residual-in_err-counts.ensures.0

pub returns-in_err-counts-clause-holds : goal.returns-in_err-counts-clause-holds
returns-in_err-counts-clause-holds c = IfOk-from_err _ _ c.from_residual-in_err-counts.ensures.0
