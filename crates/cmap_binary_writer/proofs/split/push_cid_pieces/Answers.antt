use Rattle.std.proofs.Common.{◌∙◌, ap, arith, map}
use Rattle.std.proofs.lemmas.List.{map-append}
use Rattle.std.proofs.lemmas.Result.{IfOk-from_err}
use Rattle.cmap_values.specs.DeclarationsSeen.{cid_entry_seen, cid_range_span, entries_seen}
use Rattle.cmap_binary_writer.proofs.CidParts.{can_be_split_later, piece_end, piece_more}
use Rattle.cmap_binary_writer.proofs.Cuts.{cut_end, cut_more}
use Rattle.cmap_binary_writer.proofs.split.push_cid_pieces.Goals as goal

pub loop-start-preserved : goal.loop-start-preserved
loop-start-preserved c =
    let e = c.args.entry.now in
    let now = c.loop-start.pieces.items in
    let i = c.loop-start.invariant in
    record {
      few = omega (arith, i.few, c.in_ok-push.ensures.len);
      can = can_be_split_later c.loop-start.start e.range.end c.loop-start.cid i.can (omega arith);
      pieces = piece_more (cid_entry_seen e) c.loop-start.start e.range.end c.loop-start.cid (entries_seen c.args.pieces.now.items) (entries_seen now) (entries_seen c.push.new.self.items) i.pieces i.can (omega arith) (ap entries_seen c.in_ok-push.ensures.items ∙ map-append cid_entry_seen now _);
      cut = cut_more (cid_range_span e) c.loop-start.start e.range.end (map cid_range_span c.args.pieces.now.items) (map cid_range_span now) (map cid_range_span c.push.new.self.items) i.cut (omega arith) (ap (map cid_range_span) c.in_ok-push.ensures.items ∙ map-append cid_range_span now _);
    }

pub returns-clause-pushed : goal.returns-clause-pushed
returns-clause-pushed c =
    let e = c.args.entry.now in
    let now = c.loop-start.pieces.items in
    let i = c.loop-start.invariant in
    piece_end (cid_entry_seen e) c.loop-start.start e.range.end c.loop-start.cid (entries_seen c.args.pieces.now.items) (entries_seen now) (entries_seen c.push-2.new.self.items) i.pieces i.can (omega arith) (ap entries_seen c.in_ok-push-2.ensures.items ∙ map-append cid_entry_seen now _)

pub returns-in_err-push-clause-pushed : goal.returns-in_err-push-clause-pushed
returns-in_err-push-clause-pushed c = IfOk-from_err _ _ c.from_residual.ensures.0

pub returns-in_err-push-2-clause-pushed : goal.returns-in_err-push-2-clause-pushed
returns-in_err-push-2-clause-pushed c = IfOk-from_err _ _ c.from_residual-in_err-push-2.ensures.0

pub returns-in_err-push-clause-few : goal.returns-in_err-push-clause-few
returns-in_err-push-clause-few c = IfOk-from_err _ _ c.from_residual.ensures.0

pub returns-in_err-push-2-clause-few : goal.returns-in_err-push-2-clause-few
returns-in_err-push-2-clause-few c = IfOk-from_err _ _ c.from_residual-in_err-push-2.ensures.0

pub returns-clause-few : goal.returns-clause-few
returns-clause-few c = omega (arith, c.loop-start.invariant.few, c.in_ok-push-2.ensures.len, c.loop-start.invariant.can.0)

pub returns-clause-cut : goal.returns-clause-cut
returns-clause-cut c =
    let e = c.args.entry.now in
    let now = c.loop-start.pieces.items in
    cut_end (cid_range_span e) (record { start = c.loop-start.start; end = e.range.end }) (map cid_range_span c.args.pieces.now.items) (map cid_range_span now) (map cid_range_span c.push-2.new.self.items) c.loop-start.invariant.cut (omega arith) (ap (map cid_range_span) c.in_ok-push-2.ensures.items ∙ map-append cid_range_span now _)

pub returns-in_err-push-clause-cut : goal.returns-in_err-push-clause-cut
returns-in_err-push-clause-cut c = IfOk-from_err _ _ c.from_residual.ensures.0

pub returns-in_err-push-2-clause-cut : goal.returns-in_err-push-2-clause-cut
returns-in_err-push-2-clause-cut c = IfOk-from_err _ _ c.from_residual-in_err-push-2.ensures.0
