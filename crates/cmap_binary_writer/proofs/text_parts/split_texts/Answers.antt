use Rattle.std.proofs.Common.{List, ap, map, arith, subst, sym}
use Rattle.std.proofs.lemmas.List.{take_all}
use Rattle.std.proofs.lemmas.List.Sums.{sum_by_more}
use Rattle.std.proofs.lemmas.Result.{IfOk-from_err}
use Rattle.cmap_values.specs.DeclarationsSeen.{bf_entry_seen, bf_range_span}
use Rattle.cmap_values.specs.declared.declarations.BfRange.{BfRange}
use Rattle.cmap_binary_writer.specs.Weights.{span_weight, texts_weight}
use Rattle.cmap_layers.specs.Lookups.{bf_at, bf_span}
use Rattle.cmap_binary_writer.specs.Arranged.{PushesCut}
use Rattle.cmap_values.specs.Files.{BfEntry}
use Rattle.cmap_binary_writer.specs.TextParts.{GivesUnits, units_at}
use Rattle.cmap_binary_writer.specs.Pieces.{AllSayAs, CanBeSplitText, IsShortText, PushesPieces}
use Rattle.cmap_binary_writer.proofs.Cuts.{cuts_all, cuts_more}
use Rattle.cmap_binary_writer.proofs.TextPartsSeen.{one_can, texts_all, texts_more, units_more}
use Rattle.cmap_binary_writer.proofs.text_parts.split_texts.Goals as goal

pub push_text_pieces-requires : goal.push_text_pieces-requires
push_text_pieces-requires c =
    let e = c.range-item.result in
    subst (λ x. CanBeSplitText (bf_entry_seen x)) (sym c.range-item.is) (one_can c.args.ranges.now c.loop-range.range-index e (omega arith) c.requires)

pub loop-range-preserved : goal.loop-range-preserved
loop-range-preserved c =
    let e = c.range-item.result in
    let old = map bf_entry_seen c.loop-range.pieces.items in
    let new = map bf_entry_seen c.push_text_pieces.new.pieces.items in
    record {
      pieces = texts_more c.args.ranges.now c.loop-range.range-index e old new (omega arith) c.loop-range.invariant.pieces (subst (λ x. PushesPieces bf_span bf_at IsShortText (bf_entry_seen x) old new) c.range-item.is c.in_ok-push_text_pieces.ensures.pushed);
      units = units_more c.args.ranges.now c.loop-range.range-index e old new (omega arith) c.loop-range.invariant.units (subst (λ x. GivesUnits (bf_entry_seen x) old new) c.range-item.is c.in_ok-push_text_pieces.ensures.units);
      cut = cuts_more bf_range_span c.args.ranges.now c.loop-range.range-index e (map bf_range_span c.loop-range.pieces.items) (map bf_range_span c.push_text_pieces.new.pieces.items) (omega arith) c.loop-range.invariant.cut (subst (λ x. PushesCut (bf_range_span x) (map bf_range_span c.loop-range.pieces.items) (map bf_range_span c.push_text_pieces.new.pieces.items)) c.range-item.is c.in_ok-push_text_pieces.ensures.cut);
      few = omega (arith, c.loop-range.invariant.few, c.in_ok-push_text_pieces.ensures.few, ap (λ (r : BfRange). span_weight (bf_range_span r)) c.range-item.is, sum_by_more (λ (r : BfRange). span_weight (bf_range_span r)) c.args.ranges.now c.loop-range.range-index e c.loop-range-test.true);
    }

pub returns-clause-pieces : goal.returns-clause-pieces
returns-clause-pieces c = texts_all c.args.ranges.now c.loop-range.range-index (map bf_entry_seen c.loop-range.pieces.items) (omega arith) c.loop-range.invariant.pieces

pub returns-in_err-push_text_pieces-clause-pieces : goal.returns-in_err-push_text_pieces-clause-pieces
returns-in_err-push_text_pieces-clause-pieces c = IfOk-from_err _ _ c.from_residual.ensures.0

pub returns-in_err-push_text_pieces-clause-few : goal.returns-in_err-push_text_pieces-clause-few
returns-in_err-push_text_pieces-clause-few c = IfOk-from_err _ _ c.from_residual.ensures.0

pub returns-clause-few : goal.returns-clause-few
returns-clause-few c = omega (arith, c.loop-range.invariant.few, ap texts_weight (take_all c.loop-range.range-index c.args.ranges.now c.loop-range-test.false))

pub returns-clause-cut : goal.returns-clause-cut
returns-clause-cut c = cuts_all bf_range_span c.args.ranges.now c.loop-range.range-index (map bf_range_span c.loop-range.pieces.items) (omega arith) c.loop-range.invariant.cut

pub returns-in_err-push_text_pieces-clause-cut : goal.returns-in_err-push_text_pieces-clause-cut
returns-in_err-push_text_pieces-clause-cut c = IfOk-from_err _ _ c.from_residual.ensures.0

pub returns-clause-units : goal.returns-clause-units
returns-clause-units c = subst (λ xs. (es : List BfEntry) → AllSayAs bf_span units_at es (map bf_entry_seen xs) → AllSayAs bf_span units_at es (map bf_entry_seen c.loop-range.pieces.items)) (take_all c.loop-range.range-index c.args.ranges.now (omega arith)) c.loop-range.invariant.units

pub returns-in_err-push_text_pieces-clause-units : goal.returns-in_err-push_text_pieces-clause-units
returns-in_err-push_text_pieces-clause-units c = IfOk-from_err _ _ c.from_residual.ensures.0
