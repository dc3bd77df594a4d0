use Rattle.std.proofs.Common.{◌∙◌, ◌++◌, ◌≡◌, List, [], length, drop, map, refl, ap, sym, subst}
use Rattle.std.specs.List.{All}
use Rattle.std.proofs.lemmas.Bool.{eqb-true}
use Rattle.std.proofs.lemmas.List.{map-append, nil_from_length, take-append-drop}
use Rattle.std.proofs.lemmas.Result.{IfOk-from_err}
use Rattle.cmap_values.specs.CodeLengths.{length_of}
use Rattle.cmap_values.specs.DeclarationsSeen.{cid_entry_seen, entries_seen}
use Rattle.cmap_values.specs.Files.{Declaration}
use Rattle.cmap_values.specs.declared.declarations.CidRange.{CidRange}
use Rattle.cmap_binary_writer.specs.Pieces.{IsShort}
use Rattle.cmap_binary_writer.specs.EncodersSeen.{shape_seen}
use Rattle.cmap_binary_writer.specs.Held.{AreHeld}
use Rattle.cmap_binary_writer.specs.Arranged.{AreEnded, AreInOne}
use Rattle.cmap_binary_writer.proofs.Arranged.{FullTo, full_all, full_more, full_none, some_bytes, taken_in_one}
use Rattle.cmap_binary_writer.proofs.SegmentsAdded.{AddedTo, added_all, added_more, added_none}
use Rattle.cmap_binary_writer.proofs.SegmentsMade.{short_later}
use Rattle.cmap_binary_writer.proofs.cids.add_cids.Goals as goal

pub loop-left-preserved : goal.loop-left-preserved
loop-left-preserved c =
    let cid = Declaration.cid (length_of c.args.len) in
    let left = c.loop-left.left.now in
    let here = c.split_at.result.0.now in
    let later = c.split_at.result.1.now in
    let count = c.segment_len.result in
    let say : List CidRange → List Declaration = λ xs. map cid (entries_seen xs) in
    let both : (a b : List CidRange) → say (a ++ b) ≡ say a ++ say b = λ a b. ap (map cid) (map-append cid_entry_seen a b) ∙ map-append cid (entries_seen a) (entries_seen b) in
    let front = sym c.split_at.ensures.front in
    let one : AreInOne (say here) = subst (λ xs. AreInOne (say xs)) front (taken_in_one (length_of c.args.len) (shape_seen c.first_shape-shape.result) count left c.segment_len.ensures.some c.segment_len.ensures.within c.segment_len.ensures.held) in
    let ended : AreEnded (say here) (say later) = subst (AreEnded (say here)) (ap say (sym c.split_at.ensures.back)) (subst (λ xs. AreEnded (say xs) (say (drop count left))) front (c.segment_len.ensures.ended (length_of c.args.len) (some_bytes c.args.len))) in
    let cut : left ≡ here ++ later = sym (take-append-drop count left) ∙ ap (λ xs. xs ++ drop count left) (sym c.split_at.ensures.front) ∙ ap (λ xs. here ++ xs) (sym c.split_at.ensures.back) in
    record {
      short = subst (λ xs. All IsShort (entries_seen xs)) (sym c.split_at.ensures.back) (short_later count left c.loop-left.invariant.short);
      done = added_more say both c.args.pieces.now left here later c.args.segments.now.items c.loop-left.segments.items c.push.new.self.items _ c.loop-left.invariant.done cut c.in_ok-push.ensures.items c.in_ok-cid_segment.ensures.says;
      full = full_more say both c.args.pieces.now left here later c.args.segments.now.items c.loop-left.segments.items c.push.new.self.items _ c.loop-left.invariant.full cut c.in_ok-push.ensures.items c.in_ok-cid_segment.ensures.holds one c.in_ok-cid_segment.ensures.says.few ended;
    }

pub loop-left-init : goal.loop-left-init
loop-left-init c = record { short = c.requires; done = added_none (λ xs. map (Declaration.cid (length_of c.args.len)) (entries_seen xs)) refl c.args.pieces.now c.args.segments.now.items; full = full_none (λ xs. map (Declaration.cid (length_of c.args.len)) (entries_seen xs)) refl c.args.pieces.now c.args.segments.now.items }

pub cid_segment-requires : goal.cid_segment-requires
cid_segment-requires c = subst (λ xs. AreHeld (shape_seen c.first_shape-shape.result) (entries_seen xs)) (sym c.split_at.ensures.front) c.segment_len.ensures.held

pub segment_len-requires-clause-short : goal.segment_len-requires-clause-short
segment_len-requires-clause-short c = c.loop-left.invariant.short

pub first_shape-shape-requires-clause-short : goal.first_shape-shape-requires-clause-short
first_shape-shape-requires-clause-short c = c.loop-left.invariant.short

pub segment_len-requires-clause-first : goal.segment_len-requires-clause-first
segment_len-requires-clause-first c = c.first_shape-shape.ensures

pub split_at-requires : goal.split_at-requires
split_at-requires c = c.segment_len.ensures.within

pub returns-clause-added : goal.returns-clause-added
returns-clause-added c =
    let say : List CidRange → List Declaration = λ xs. map (Declaration.cid (length_of c.args.len)) (entries_seen xs) in
    let none : c.loop-left.left.now ≡ [] = nil_from_length c.loop-left.left.now (eqb-true (length c.loop-left.left.now) 0 (sym c.loop-left-test.ensures)) in
    added_all say c.args.pieces.now c.args.segments.now.items c.loop-left.segments.items (subst (λ left. AddedTo say c.args.pieces.now left c.args.segments.now.items c.loop-left.segments.items) none c.loop-left.invariant.done)

pub returns-clause-full : goal.returns-clause-full
returns-clause-full c =
    let say : List CidRange → List Declaration = λ xs. map (Declaration.cid (length_of c.args.len)) (entries_seen xs) in
    let none : c.loop-left.left.now ≡ [] = nil_from_length c.loop-left.left.now (eqb-true (length c.loop-left.left.now) 0 (sym c.loop-left-test.ensures)) in
    full_all say refl c.args.pieces.now c.args.segments.now.items c.loop-left.segments.items (subst (λ left. FullTo say c.args.pieces.now left c.args.segments.now.items c.loop-left.segments.items) none c.loop-left.invariant.full)

pub returns-in_err-cid_segment-clause-added : goal.returns-in_err-cid_segment-clause-added
returns-in_err-cid_segment-clause-added c = IfOk-from_err _ _ c.from_residual.ensures.0

pub returns-in_err-push-clause-added : goal.returns-in_err-push-clause-added
returns-in_err-push-clause-added c = IfOk-from_err _ _ c.from_residual-in_err-push.ensures.0

pub returns-in_err-cid_segment-clause-full : goal.returns-in_err-cid_segment-clause-full
returns-in_err-cid_segment-clause-full c = IfOk-from_err _ _ c.from_residual.ensures.0

pub returns-in_err-push-clause-full : goal.returns-in_err-push-clause-full
returns-in_err-push-clause-full c = IfOk-from_err _ _ c.from_residual-in_err-push.ensures.0
