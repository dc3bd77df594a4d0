use Rattle.std.proofs.Common.{◌+◌, ◌∙◌, ◌++◌, ◌∷◌, [], map, ap, arith}
use Rattle.std.proofs.lemmas.List.{map-append}
use Rattle.std.proofs.lemmas.Result.{IfOk-from_err}
use Rattle.cmap_values.specs.DeclarationsSeen.{bf_entry_seen, bf_range_span}
use Rattle.cmap_binary_writer.proofs.Cuts.{cut_end, cut_more, cut_start}
use Rattle.cmap_binary_writer.proofs.TextParts.{pieces_end, pieces_next, pieces_start, pieces_units}
use Rattle.cmap_binary_writer.proofs.text_parts.push_text_pieces.Goals as goal

pub loop-start-init : goal.loop-start-init
loop-start-init c = record {
  first = omega arith;
  few = omega arith;
  left = c.requires.0;
  pieces = pieces_start (bf_entry_seen c.args.entry.now) (map bf_entry_seen c.args.pieces.now.items);
  cut = cut_start (bf_range_span c.args.entry.now) (map bf_range_span c.args.pieces.now.items);
}

pub loop-start-preserved : goal.loop-start-preserved
loop-start-preserved c =
    let e = bf_entry_seen c.args.entry.now in
    let part = c.in_ok-part_of_text.field-0 in
    let is = c.in_ok-part_of_text.ensures in
    let old = map bf_entry_seen c.args.pieces.now.items in
    let now = c.loop-start.pieces.items in
    let i = c.loop-start.invariant in
    let s = c.loop-start.start in
    let end = ap (λ r. r.end) is.0 in
    record {
      first = omega (arith, i.first);
      few = omega (arith, i.few, c.in_ok-push.ensures.len);
      left = omega arith;
      pieces = pieces_next e (bf_entry_seen part) s (s + 256) c.requires i.first (ap (λ r. r.start) is.0) (omega (arith, end)) (omega (arith, end)) (omega (arith, end)) (omega (arith, end)) is.1 old (map bf_entry_seen now) (map bf_entry_seen c.push.new.self.items) i.pieces (ap (map bf_entry_seen) c.in_ok-push.ensures.items ∙ map-append bf_entry_seen now _);
      cut = cut_more (bf_range_span c.args.entry.now) s e.end (map bf_range_span c.args.pieces.now.items) (map bf_range_span now) (map bf_range_span c.push.new.self.items) i.cut (omega arith) (ap (map bf_range_span) c.in_ok-push.ensures.items ∙ map-append bf_range_span now _ ∙ ap (λ r. map bf_range_span now ++ record { start = r.start; end = r.end } ∷ []) is.0);
    }

pub returns-clause-pushed : goal.returns-clause-pushed
returns-clause-pushed c =
    let e = bf_entry_seen c.args.entry.now in
    let part = c.in_ok-part_of_text-2.field-0 in
    let is = c.in_ok-part_of_text-2.ensures in
    let old = map bf_entry_seen c.args.pieces.now.items in
    let new = map bf_entry_seen c.push-2.new.self.items in
    let now = c.loop-start.pieces.items in
    let i = c.loop-start.invariant in
    let s = c.loop-start.start in
    let end = ap (λ r. r.end) is.0 in
    pieces_end e (e.end + 1) old new (omega arith) (pieces_next e (bf_entry_seen part) s (e.end + 1) c.requires i.first (ap (λ r. r.start) is.0) (omega (arith, end, i.left)) (omega (arith, end)) (omega (arith, end)) (omega (arith, end)) is.1 old (map bf_entry_seen now) new i.pieces (ap (map bf_entry_seen) c.in_ok-push-2.ensures.items ∙ map-append bf_entry_seen now _))

pub returns-clause-units : goal.returns-clause-units
returns-clause-units c =
    let e = bf_entry_seen c.args.entry.now in
    let part = c.in_ok-part_of_text-2.field-0 in
    let is = c.in_ok-part_of_text-2.ensures in
    let old = map bf_entry_seen c.args.pieces.now.items in
    let new = map bf_entry_seen c.push-2.new.self.items in
    let now = c.loop-start.pieces.items in
    let i = c.loop-start.invariant in
    let s = c.loop-start.start in
    let end = ap (λ r. r.end) is.0 in
    pieces_units e (e.end + 1) old new (pieces_next e (bf_entry_seen part) s (e.end + 1) c.requires i.first (ap (λ r. r.start) is.0) (omega (arith, end, i.left)) (omega (arith, end)) (omega (arith, end)) (omega (arith, end)) is.1 old (map bf_entry_seen now) new i.pieces (ap (map bf_entry_seen) c.in_ok-push-2.ensures.items ∙ map-append bf_entry_seen now _))

pub returns-in_err-part_of_text-clause-pushed : goal.returns-in_err-part_of_text-clause-pushed
returns-in_err-part_of_text-clause-pushed c = IfOk-from_err _ _ c.from_residual.ensures.0

pub returns-in_err-push-clause-pushed : goal.returns-in_err-push-clause-pushed
returns-in_err-push-clause-pushed c = IfOk-from_err _ _ c.from_residual-in_err-push.ensures.0

pub returns-in_err-part_of_text-2-clause-pushed : goal.returns-in_err-part_of_text-2-clause-pushed
returns-in_err-part_of_text-2-clause-pushed c = IfOk-from_err _ _ c.from_residual-in_err-part_of_text-2.ensures.0

pub returns-in_err-push-2-clause-pushed : goal.returns-in_err-push-2-clause-pushed
returns-in_err-push-2-clause-pushed c = IfOk-from_err _ _ c.from_residual-in_err-push-2.ensures.0

pub returns-in_err-part_of_text-clause-few : goal.returns-in_err-part_of_text-clause-few
returns-in_err-part_of_text-clause-few c = IfOk-from_err _ _ c.from_residual.ensures.0

pub returns-in_err-push-clause-few : goal.returns-in_err-push-clause-few
returns-in_err-push-clause-few c = IfOk-from_err _ _ c.from_residual-in_err-push.ensures.0

pub returns-in_err-part_of_text-2-clause-few : goal.returns-in_err-part_of_text-2-clause-few
returns-in_err-part_of_text-2-clause-few c = IfOk-from_err _ _ c.from_residual-in_err-part_of_text-2.ensures.0

pub returns-in_err-push-2-clause-few : goal.returns-in_err-push-2-clause-few
returns-in_err-push-2-clause-few c = IfOk-from_err _ _ c.from_residual-in_err-push-2.ensures.0

pub returns-clause-few : goal.returns-clause-few
returns-clause-few c = omega (arith, c.loop-start.invariant.few, c.in_ok-push-2.ensures.len, c.loop-start.invariant.left)

pub returns-clause-cut : goal.returns-clause-cut
returns-clause-cut c =
    let e = bf_range_span c.args.entry.now in
    let is = c.in_ok-part_of_text-2.ensures in
    let now = c.loop-start.pieces.items in
    cut_end e (record { start = c.loop-start.start; end = e.end }) (map bf_range_span c.args.pieces.now.items) (map bf_range_span now) (map bf_range_span c.push-2.new.self.items) c.loop-start.invariant.cut (omega arith) (ap (map bf_range_span) c.in_ok-push-2.ensures.items ∙ map-append bf_range_span now _ ∙ ap (λ r. map bf_range_span now ++ record { start = r.start; end = r.end } ∷ []) is.0)

pub returns-in_err-part_of_text-clause-cut : goal.returns-in_err-part_of_text-clause-cut
returns-in_err-part_of_text-clause-cut c = IfOk-from_err _ _ c.from_residual.ensures.0

pub returns-in_err-push-clause-cut : goal.returns-in_err-push-clause-cut
returns-in_err-push-clause-cut c = IfOk-from_err _ _ c.from_residual-in_err-push.ensures.0

pub returns-in_err-part_of_text-2-clause-cut : goal.returns-in_err-part_of_text-2-clause-cut
returns-in_err-part_of_text-2-clause-cut c = IfOk-from_err _ _ c.from_residual-in_err-part_of_text-2.ensures.0

pub returns-in_err-push-2-clause-cut : goal.returns-in_err-push-2-clause-cut
returns-in_err-push-2-clause-cut c = IfOk-from_err _ _ c.from_residual-in_err-push-2.ensures.0

pub returns-in_err-part_of_text-clause-units : goal.returns-in_err-part_of_text-clause-units
returns-in_err-part_of_text-clause-units c = IfOk-from_err _ _ c.from_residual.ensures.0

pub returns-in_err-push-clause-units : goal.returns-in_err-push-clause-units
returns-in_err-push-clause-units c = IfOk-from_err _ _ c.from_residual-in_err-push.ensures.0

pub returns-in_err-part_of_text-2-clause-units : goal.returns-in_err-part_of_text-2-clause-units
returns-in_err-part_of_text-2-clause-units c = IfOk-from_err _ _ c.from_residual-in_err-part_of_text-2.ensures.0

pub returns-in_err-push-2-clause-units : goal.returns-in_err-push-2-clause-units
returns-in_err-push-2-clause-units c = IfOk-from_err _ _ c.from_residual-in_err-push-2.ensures.0
