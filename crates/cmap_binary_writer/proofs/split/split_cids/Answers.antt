use Rattle.std.proofs.Common.{ap, length, arith, map}
use Rattle.std.proofs.lemmas.List.{take_all}
use Rattle.std.proofs.lemmas.Result.{IfOk-from_err}
use Rattle.cmap_values.specs.DeclarationsSeen.{cid_range_span, entries_seen}
use Rattle.cmap_binary_writer.specs.Weights.{cids_weight}
use Rattle.cmap_binary_writer.proofs.CidParts.{one_can, pieces_of_all, pieces_of_more}
use Rattle.cmap_binary_writer.proofs.Cuts.{cuts_all, cuts_more}
use Rattle.cmap_binary_writer.proofs.Weighed.{pieces_weighed}
use Rattle.cmap_binary_writer.proofs.split.split_cids.Goals as goal

pub push_cid_pieces-requires : goal.push_cid_pieces-requires
push_cid_pieces-requires c = one_can c.args.ranges.now c.loop-range.range-index _ (omega arith) c.requires

pub loop-range-preserved : goal.loop-range-preserved
loop-range-preserved c = record {
  pieces = pieces_of_more c.args.ranges.now c.loop-range.range-index _ (entries_seen c.loop-range.pieces.items) (entries_seen c.push_cid_pieces.new.pieces.items) (omega arith) c.loop-range.invariant.pieces c.in_ok-push_cid_pieces.ensures.pushed;
  cut = cuts_more cid_range_span c.args.ranges.now c.loop-range.range-index _ (map cid_range_span c.loop-range.pieces.items) (map cid_range_span c.push_cid_pieces.new.pieces.items) (omega arith) c.loop-range.invariant.cut c.in_ok-push_cid_pieces.ensures.cut;
  few = pieces_weighed c.args.ranges.now c.loop-range.range-index _ (length c.loop-range.pieces.items) (length c.push_cid_pieces.new.pieces.items) (omega arith) c.loop-range.invariant.few c.in_ok-push_cid_pieces.ensures.few;
}

pub returns-clause-pieces : goal.returns-clause-pieces
returns-clause-pieces c = pieces_of_all c.args.ranges.now c.loop-range.range-index (entries_seen c.loop-range.pieces.items) (omega arith) c.loop-range.invariant.pieces

pub returns-in_err-push_cid_pieces-clause-pieces : goal.returns-in_err-push_cid_pieces-clause-pieces
returns-in_err-push_cid_pieces-clause-pieces c = IfOk-from_err _ _ c.from_residual.ensures.0

pub returns-in_err-push_cid_pieces-clause-few : goal.returns-in_err-push_cid_pieces-clause-few
returns-in_err-push_cid_pieces-clause-few c = IfOk-from_err _ _ c.from_residual.ensures.0

pub returns-clause-few : goal.returns-clause-few
returns-clause-few c = omega (arith, c.loop-range.invariant.few, ap cids_weight (take_all c.loop-range.range-index c.args.ranges.now c.loop-range-test.false))

pub returns-clause-cut : goal.returns-clause-cut
returns-clause-cut c = cuts_all cid_range_span c.args.ranges.now c.loop-range.range-index (map cid_range_span c.loop-range.pieces.items) (omega arith) c.loop-range.invariant.cut

pub returns-in_err-push_cid_pieces-clause-cut : goal.returns-in_err-push_cid_pieces-clause-cut
returns-in_err-push_cid_pieces-clause-cut c = IfOk-from_err _ _ c.from_residual.ensures.0
