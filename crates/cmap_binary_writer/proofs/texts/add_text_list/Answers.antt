use Rattle.std.proofs.Common.{ℕ, ◌≡◌, All, List, rules, ◌<◌, ◌^◌, ap, length, map, subst, sym, arith}
use Rattle.std.proofs.lemmas.List.{length-map}
use Rattle.std.proofs.lemmas.List.Sorted.{All-permutation, IsPermutation-map, length_permutation}
use Rattle.std.proofs.lemmas.Fn.{always_returns_same}
use Rattle.std.proofs.lemmas.Simd.{map-map}
use Rattle.std.proofs.lemmas.Result.{IfOk-from_err}
use Rattle.cmap_runs.specs.Ranges.{runs_of}
use Rattle.cmap_runs.proofs.MaximalRuns.{AreRuns-runs_of}
use Rattle.cmap_values.specs.DeclarationsSeen.{bf_entry_seen, bf_range_span}
use Rattle.cmap_values.specs.declared.declarations.BfRange.{BfRange}
use Rattle.cmap_values.specs.Files.{BfEntry, Declaration}
use Rattle.cmap_layers.specs.Lookups.{bf_at, bf_span}
use Rattle.cmap_binary_writer.specs.Arranged.{AddsFull, AreCut, AreOrdered, segment_type}
use Rattle.cmap_binary_writer.specs.Held.{AreInOrder}
use Rattle.cmap_binary_writer.specs.Pieces.{AllSayAs, ArePieces, CanBeSplitText, IsShortText}
use Rattle.cmap_binary_writer.specs.Segments.{AddsSegments}
use Rattle.cmap_binary_writer.specs.Weights.{AreFew, run_span, texts_weight}
use Rattle.cmap_binary_writer.specs.TextParts.{IsDecidedText, units_at}
use Rattle.cmap_binary_writer.proofs.ArrangedTexts.{said}
use Rattle.cmap_binary_writer.proofs.EntriesOrdered.{cuts_in_order, runs_in_order, sorted_ordered}
use Rattle.cmap_binary_writer.proofs.Weighed.{bf_spans_seen}
use Rattle.cmap_binary_writer.proofs.TextPartsSeen.{runs_few}
use Rattle.cmap_binary_writer.proofs.Told.{pieces_say, same_permuted, same_told}
use Rattle.cmap_values.proofs.Outcomes.{memory_on, refuses_on}
use Rattle.cmap_binary_writer.proofs.ObstaclesMet.{long_text}
use Rattle.cmap_binary_writer.proofs.TextsMade.{can_split}
use Rattle.cmap_binary_writer.proofs.texts.add_text_list.Goals as goal

pub add_texts-requires : goal.add_texts-requires
add_texts-requires c =
    let pieces = c.in_ok-pieces.pieces.items in
    let sorted = c.sort_by_key.new.self.items in
    subst (λ xs. All IsShortText (map bf_entry_seen xs)) (sym c.deref-3.ensures.value) (All-permutation IsShortText (map bf_entry_seen pieces) (map bf_entry_seen sorted) (IsPermutation-map bf_entry_seen pieces sorted c.sort_by_key.ensures.permutation) c.in_ok-pieces.ensures.pieces.0)

pub returns-clause-added : goal.returns-clause-added
returns-clause-added c =
    let es = map bf_entry_seen c.args.list.now in
    let ranges = map bf_entry_seen c.in_ok-ranges.ranges.items in
    let items = c.in_ok-pieces.pieces.items in
    let pieces = map bf_entry_seen items in
    let sorted = c.sort_by_key.new.self.items in
    let parts = subst (λ xs. ArePieces bf_span bf_at IsShortText (map bf_entry_seen xs) pieces) c.deref-2.ensures.value c.in_ok-pieces.ensures.pieces in
    let same = same_permuted bf_span bf_at es pieces (map bf_entry_seen sorted) (IsPermutation-map bf_entry_seen items sorted c.sort_by_key.ensures.permutation) (pieces_say bf_span bf_at IsShortText es ranges pieces parts c.in_ok-ranges.ensures.same) in
    let added = subst (λ xs. AddsSegments c.args.segments.now.items c.add_texts.new.segments.items (map Declaration.bf (map bf_entry_seen xs))) c.deref-3.ensures.value c.in_ok-add_texts.ensures.added in
    let few : AreFew (map bf_span es) (length (map bf_entry_seen sorted)) = omega (arith, length-map sorted bf_entry_seen, length_permutation items sorted c.sort_by_key.ensures.permutation, c.in_ok-pieces.ensures.few, ap texts_weight c.deref-2.ensures.value, c.in_ok-ranges.ensures.few) in
    (map bf_entry_seen sorted, added, same_told bf_span bf_at es (map bf_entry_seen sorted) same, few)

pub returns-in_err-check_units-clause-err : goal.returns-in_err-check_units-clause-err
returns-in_err-check_units-clause-err c = refuses_on _ _ c.from_residual-in_err-check_units.ensures.1 (long_text (map bf_entry_seen c.args.list.now) c.deref.result.now (subst (λ xs. All IsDecidedText (map bf_entry_seen xs)) (sym c.deref.ensures.value) c.in_ok-ranges.ensures.small) (subst (λ xs. AllSayAs bf_span units_at (map bf_entry_seen c.args.list.now) (map bf_entry_seen xs)) (sym c.deref.ensures.value) c.in_ok-ranges.ensures.units) (subst (λ xs. map bf_range_span xs ≡ map run_span (runs_of (map bf_span (map bf_entry_seen c.args.list.now)))) (sym c.deref.ensures.value) c.in_ok-ranges.ensures.runs) _ c.in_err-check_units.ensures.err) (λ o h. h)

pub returns-in_err-ranges-clause-err : goal.returns-in_err-ranges-clause-err
returns-in_err-ranges-clause-err c = refuses_on _ _ c.from_residual.ensures.1 c.in_err-ranges.ensures.err (λ o h. h)

pub split_texts-requires : goal.split_texts-requires
split_texts-requires c =
    let ranges = map bf_entry_seen c.in_ok-ranges.ranges.items in
    subst (λ xs. All CanBeSplitText (map bf_entry_seen xs)) (sym c.deref-2.ensures.value) (can_split ranges c.in_ok-ranges.ensures.small (subst (λ xs. All (λ e. length e.units < 2 ^ 8) (map bf_entry_seen xs)) c.deref.ensures.value c.in_ok-check_units.ensures.counted))

pub returns-in_err-pieces-clause-err : goal.returns-in_err-pieces-clause-err
returns-in_err-pieces-clause-err c = memory_on _ _ c.from_residual-in_err-pieces.ensures.1

pub returns-in_err-sort_by_key-clause-err : goal.returns-in_err-sort_by_key-clause-err
returns-in_err-sort_by_key-clause-err c = memory_on _ _ c.from_residual-in_err-sort_by_key.ensures.1

pub returns-in_err-add_texts-clause-err : goal.returns-in_err-add_texts-clause-err
returns-in_err-add_texts-clause-err c = memory_on _ _ c.from_residual-in_err-add_texts.ensures.1

pub returns-in_err-ranges-clause-added : goal.returns-in_err-ranges-clause-added
returns-in_err-ranges-clause-added c = IfOk-from_err _ _ c.from_residual.ensures.0

pub returns-in_err-check_units-clause-added : goal.returns-in_err-check_units-clause-added
returns-in_err-check_units-clause-added c = IfOk-from_err _ _ c.from_residual-in_err-check_units.ensures.0

pub returns-in_err-pieces-clause-added : goal.returns-in_err-pieces-clause-added
returns-in_err-pieces-clause-added c = IfOk-from_err _ _ c.from_residual-in_err-pieces.ensures.0

pub returns-in_err-sort_by_key-clause-added : goal.returns-in_err-sort_by_key-clause-added
returns-in_err-sort_by_key-clause-added c = IfOk-from_err _ _ c.from_residual-in_err-sort_by_key.ensures.0

pub returns-in_err-add_texts-clause-added : goal.returns-in_err-add_texts-clause-added
returns-in_err-add_texts-clause-added c = IfOk-from_err _ _ c.from_residual-in_err-add_texts.ensures.0

pub returns-clause-arranged : goal.returns-clause-arranged
returns-clause-arranged c =
    let es = map bf_entry_seen c.args.list.now in
    let runs = runs_of (map bf_span es) in
    let ranges = c.in_ok-ranges.ranges.items in
    let items = c.in_ok-pieces.pieces.items in
    let pieces = map bf_entry_seen items in
    let sorted = c.sort_by_key.new.self.items in
    let parts = subst (λ xs. ArePieces bf_span bf_at IsShortText (map bf_entry_seen xs) pieces) c.deref-2.ensures.value c.in_ok-pieces.ensures.pieces in
    let cut : AreCut (map run_span runs) (map bf_range_span items) = subst (λ ss. AreCut ss (map bf_range_span items)) c.in_ok-ranges.ensures.runs (subst (λ xs. AreCut (map bf_range_span xs) (map bf_range_span items)) c.deref-2.ensures.value c.in_ok-pieces.ensures.cut) in
    let order : AreInOrder 0 (map bf_range_span items) = cuts_in_order 0 (map run_span runs) (map bf_range_span items) (runs_in_order (map bf_span es) runs (AreRuns-runs_of (map bf_span es))) cut in
    let types : BfRange → ℕ = λ x. segment_type (said x) in
    let keys = always_returns_same _ (λ a r. r ≡ types a.0.now) _ (λ a r next called. search rules) in
    let ordered = sorted_ordered said items sorted order (c.in_ok-sort_by_key.ensures.sorted types keys) (c.sort_by_key.ensures.stable types keys) in (
      map bf_entry_seen sorted,
      record {
        pieces = pieces;
        few = runs_few ranges runs c.in_ok-ranges.ensures.runs c.in_ok-ranges.ensures.small;
        cut = subst (AreCut (map run_span runs)) (sym (bf_spans_seen items)) cut;
        same = pieces_say bf_span bf_at IsShortText es (map bf_entry_seen ranges) pieces parts c.in_ok-ranges.ensures.same;
        units = subst (λ xs. (es : List BfEntry) → AllSayAs bf_span units_at es (map bf_entry_seen xs) → AllSayAs bf_span units_at es pieces) c.deref-2.ensures.value c.in_ok-pieces.ensures.units es c.in_ok-ranges.ensures.units;
        short = c.in_ok-pieces.ensures.pieces.0;
        moved = IsPermutation-map bf_entry_seen items sorted c.sort_by_key.ensures.permutation;
        ordered = subst AreOrdered (sym (map-map Declaration.bf bf_entry_seen sorted)) ordered;
      },
      subst (λ xs. AddsFull c.args.segments.now.items c.add_texts.new.segments.items (map Declaration.bf (map bf_entry_seen xs))) c.deref-3.ensures.value c.in_ok-add_texts.ensures.full,
    )

pub returns-in_err-ranges-clause-arranged : goal.returns-in_err-ranges-clause-arranged
returns-in_err-ranges-clause-arranged c = IfOk-from_err _ _ c.from_residual.ensures.0

pub returns-in_err-check_units-clause-arranged : goal.returns-in_err-check_units-clause-arranged
returns-in_err-check_units-clause-arranged c = IfOk-from_err _ _ c.from_residual-in_err-check_units.ensures.0

pub returns-in_err-pieces-clause-arranged : goal.returns-in_err-pieces-clause-arranged
returns-in_err-pieces-clause-arranged c = IfOk-from_err _ _ c.from_residual-in_err-pieces.ensures.0

pub returns-in_err-sort_by_key-clause-arranged : goal.returns-in_err-sort_by_key-clause-arranged
returns-in_err-sort_by_key-clause-arranged c = IfOk-from_err _ _ c.from_residual-in_err-sort_by_key.ensures.0

pub returns-in_err-add_texts-clause-arranged : goal.returns-in_err-add_texts-clause-arranged
returns-in_err-add_texts-clause-arranged c = IfOk-from_err _ _ c.from_residual-in_err-add_texts.ensures.0
