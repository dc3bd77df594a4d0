use Rattle.std.proofs.Common.{ℕ, ◌≡◌, ◌*◌, ◌≤◌, All, ap, rules, length, map, subst, sym, arith}
use Rattle.std.proofs.lemmas.List.{length-map}
use Rattle.std.proofs.lemmas.List.Sorted.{All-permutation, IsPermutation-map, length_permutation}
use Rattle.std.proofs.lemmas.Fn.{always_returns_same}
use Rattle.std.proofs.lemmas.Simd.{map-map}
use Rattle.std.proofs.lemmas.Result.{IfOk-from_err}
use Rattle.cmap_values.specs.CodeLengths.{length_of}
use Rattle.cmap_values.specs.DeclarationsSeen.{cid_entry_seen, cid_range_span, entries_seen}
use Rattle.cmap_values.specs.Files.{Declaration}
use Rattle.cmap_values.specs.declared.declarations.CidRange.{CidRange}
use Rattle.cmap_layers.specs.Lookups.{cid_at, cid_span}
use Rattle.cmap_binary_writer.specs.Arranged.{AddsFull, AreCut, AreOrdered, segment_type}
use Rattle.cmap_binary_writer.specs.Held.{AreInOrder}
use Rattle.cmap_binary_writer.specs.Pieces.{ArePieces, IsShort}
use Rattle.cmap_binary_writer.specs.Segments.{AddsSegments}
use Rattle.cmap_binary_writer.specs.Weights.{AreFew, cids_weight, weight_of}
use Rattle.cmap_values.proofs.Outcomes.{memory_on, refuses_on}
use Rattle.cmap_binary_writer.proofs.EntriesOrdered.{cuts_in_order, sorted_ordered, wholes_in_order}
use Rattle.cmap_binary_writer.proofs.Told.{pieces_say, same_permuted, same_told}
use Rattle.cmap_binary_writer.proofs.Weighed.{cid_spans_seen}
use Rattle.cmap_binary_writer.proofs.cids.add_cid_list.Goals as goal

pub add_cids-requires : goal.add_cids-requires
add_cids-requires c =
    let pieces = c.in_ok-pieces.pieces.items in
    let sorted = c.sort_by_key.new.self.items in
    subst (λ xs. All IsShort (entries_seen xs)) (sym c.deref-2.ensures.value) (All-permutation IsShort (entries_seen pieces) (entries_seen sorted) (IsPermutation-map cid_entry_seen pieces sorted c.sort_by_key.ensures.permutation) c.in_ok-pieces.ensures.pieces.0)

pub returns-clause-added : goal.returns-clause-added
returns-clause-added c =
    let es = entries_seen c.args.list.now in
    let ranges = c.in_ok-ranges.ranges.items in
    let pieces = c.in_ok-pieces.pieces.items in
    let sorted = c.sort_by_key.new.self.items in
    let say = c.in_ok-ranges.ensures.same.0 in
    let parts = subst (λ xs. ArePieces cid_span cid_at IsShort (entries_seen xs) (entries_seen pieces)) c.deref.ensures.value c.in_ok-pieces.ensures.pieces in
    let same = same_permuted cid_span cid_at es (entries_seen pieces) (entries_seen sorted) (IsPermutation-map cid_entry_seen pieces sorted c.sort_by_key.ensures.permutation) (pieces_say cid_span cid_at IsShort es (entries_seen ranges) (entries_seen pieces) parts say) in
    let added = subst (λ xs. AddsSegments c.args.segments.now.items c.add_cids.new.segments.items (map (Declaration.cid (length_of c.args.len)) (entries_seen xs))) c.deref-2.ensures.value c.in_ok-add_cids.ensures.added in
    let few : 256 * length (entries_seen sorted) ≤ weight_of (map cid_range_span c.args.list.now) = omega (arith, length-map sorted cid_entry_seen, length_permutation pieces sorted c.sort_by_key.ensures.permutation, c.in_ok-pieces.ensures.few, ap cids_weight c.deref.ensures.value, c.in_ok-ranges.ensures.few) in
    (entries_seen sorted, added, same_told cid_span cid_at es (entries_seen sorted) same, subst (λ ss. AreFew ss (length (entries_seen sorted))) (sym (cid_spans_seen c.args.list.now)) few)

pub returns-in_err-ranges-clause-err : goal.returns-in_err-ranges-clause-err
returns-in_err-ranges-clause-err c = refuses_on _ _ c.from_residual.ensures.1 c.in_err-ranges.ensures.err (λ o h. h)

pub returns-in_err-pieces-clause-err : goal.returns-in_err-pieces-clause-err
returns-in_err-pieces-clause-err c = memory_on _ _ c.from_residual-in_err-pieces.ensures.1

pub returns-in_err-sort_by_key-clause-err : goal.returns-in_err-sort_by_key-clause-err
returns-in_err-sort_by_key-clause-err c = memory_on _ _ c.from_residual-in_err-sort_by_key.ensures.1

pub returns-in_err-add_cids-clause-err : goal.returns-in_err-add_cids-clause-err
returns-in_err-add_cids-clause-err c = memory_on _ _ c.from_residual-in_err-add_cids.ensures.1

pub returns-in_err-ranges-clause-added : goal.returns-in_err-ranges-clause-added
returns-in_err-ranges-clause-added c = IfOk-from_err _ _ c.from_residual.ensures.0

pub returns-in_err-pieces-clause-added : goal.returns-in_err-pieces-clause-added
returns-in_err-pieces-clause-added c = IfOk-from_err _ _ c.from_residual-in_err-pieces.ensures.0

pub returns-in_err-sort_by_key-clause-added : goal.returns-in_err-sort_by_key-clause-added
returns-in_err-sort_by_key-clause-added c = IfOk-from_err _ _ c.from_residual-in_err-sort_by_key.ensures.0

pub returns-in_err-add_cids-clause-added : goal.returns-in_err-add_cids-clause-added
returns-in_err-add_cids-clause-added c = IfOk-from_err _ _ c.from_residual-in_err-add_cids.ensures.0

pub returns-clause-arranged : goal.returns-clause-arranged
returns-clause-arranged c =
    let len = length_of c.args.len in
    let say : CidRange → Declaration = λ x. Declaration.cid len (cid_entry_seen x) in
    let es = entries_seen c.args.list.now in
    let ranges = c.in_ok-ranges.ranges.items in
    let pieces = c.in_ok-pieces.pieces.items in
    let sorted = c.sort_by_key.new.self.items in
    let same = c.in_ok-ranges.ensures.same in
    let parts = subst (λ xs. ArePieces cid_span cid_at IsShort (entries_seen xs) (entries_seen pieces)) c.deref.ensures.value c.in_ok-pieces.ensures.pieces in
    let cut : AreCut (map cid_range_span ranges) (map cid_range_span pieces) = subst (λ xs. AreCut (map cid_range_span xs) (map cid_range_span pieces)) c.deref.ensures.value c.in_ok-pieces.ensures.cut in
    let seen : AreCut (map cid_span (entries_seen ranges)) (map cid_span (entries_seen pieces)) = subst (λ ss. AreCut ss (map cid_span (entries_seen pieces))) (sym (cid_spans_seen ranges)) (subst (AreCut (map cid_range_span ranges)) (sym (cid_spans_seen pieces)) cut) in
    let order : AreInOrder 0 (map cid_range_span pieces) = subst (AreInOrder 0) (cid_spans_seen pieces) (cuts_in_order 0 (map cid_span (entries_seen ranges)) (map cid_span (entries_seen pieces)) (wholes_in_order (entries_seen ranges) c.in_ok-ranges.ensures.whole same.1) seen) in
    let types : CidRange → ℕ = λ x. segment_type (say x) in
    let keys = always_returns_same _ (λ a r. r ≡ types a.0.now) _ (λ a r next called. search rules) in
    let ordered = sorted_ordered say pieces sorted order (c.in_ok-sort_by_key.ensures.sorted types keys) (c.sort_by_key.ensures.stable types keys) in (
      entries_seen sorted,
      record {
        ranges = entries_seen ranges;
        pieces = entries_seen pieces;
        said = same.0;
        small = same.1;
        whole = c.in_ok-ranges.ensures.whole;
        cut = seen;
        same = pieces_say cid_span cid_at IsShort es (entries_seen ranges) (entries_seen pieces) parts same.0;
        short = c.in_ok-pieces.ensures.pieces.0;
        moved = IsPermutation-map cid_entry_seen pieces sorted c.sort_by_key.ensures.permutation;
        ordered = subst AreOrdered (sym (map-map (Declaration.cid len) cid_entry_seen sorted)) ordered;
      },
      subst (λ xs. AddsFull c.args.segments.now.items c.add_cids.new.segments.items (map (Declaration.cid len) (entries_seen xs))) c.deref-2.ensures.value c.in_ok-add_cids.ensures.full,
    )

pub returns-in_err-ranges-clause-arranged : goal.returns-in_err-ranges-clause-arranged
returns-in_err-ranges-clause-arranged c = IfOk-from_err _ _ c.from_residual.ensures.0

pub returns-in_err-pieces-clause-arranged : goal.returns-in_err-pieces-clause-arranged
returns-in_err-pieces-clause-arranged c = IfOk-from_err _ _ c.from_residual-in_err-pieces.ensures.0

pub returns-in_err-sort_by_key-clause-arranged : goal.returns-in_err-sort_by_key-clause-arranged
returns-in_err-sort_by_key-clause-arranged c = IfOk-from_err _ _ c.from_residual-in_err-sort_by_key.ensures.0

pub returns-in_err-add_cids-clause-arranged : goal.returns-in_err-add_cids-clause-arranged
returns-in_err-add_cids-clause-arranged c = IfOk-from_err _ _ c.from_residual-in_err-add_cids.ensures.0
