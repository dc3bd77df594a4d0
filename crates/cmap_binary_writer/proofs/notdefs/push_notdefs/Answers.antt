use Rattle.std.proofs.Common.{◌≡◌, ◌∙◌, ◌++◌, [], ap, arith, drop, length, map, subst, sym, take}
use Rattle.std.proofs.lemmas.Bool.{eqb-false, eqb-true}
use Rattle.std.proofs.lemmas.List.{length-map, nil_from_length, take-append-drop}
use Rattle.cmap_values.specs.CodeLengths.{length_of}
use Rattle.cmap_values.specs.DeclarationsSeen.{cid_entry_seen}
use Rattle.cmap_values.proofs.Outcomes.{passed_on}
use Rattle.cmap_binary_writer.specs.Fields.{NotdefFits, notdefs_payload}
use Rattle.cmap_binary_writer.proofs.ListsKept.{short_notdefs}
use Rattle.cmap_binary_writer.proofs.ObstaclesMet.{long_passed_on, notdefs_among}
use Rattle.cmap_binary_writer.proofs.PartsMade.{WrittenTo, some_left, written_all, written_more, written_none}
use Rattle.cmap_binary_writer.proofs.RowsAdded.{segment_added}
use Rattle.cmap_binary_writer.proofs.notdefs.push_notdefs.Goals as goal

pub loop-left-init : goal.loop-left-init
loop-left-init c =
    let len = length_of c.args.len in
    written_none 10 (notdefs_payload len) 65535 cid_entry_seen (NotdefFits len) c.args.entries.now c.args.out.now.items

pub loop-left-preserved : goal.loop-left-preserved
loop-left-preserved c =
    let len = length_of c.args.len in
    let left = c.loop-left.left.now in
    let here = c.split_at.result.0.now in
    let later = c.split_at.result.1.now in
    let now = c.loop-left.out.items in
    let new = c.push_segment.new.out.items in
    let payload = c.in_ok-payload.ensures.0 in
    let added = segment_added now new 10 c.deref.result.now (notdefs_payload len (map cid_entry_seen here)) (c.deref.ensures.value ∙ payload.1) c.in_ok-push_segment.ensures.framed in
    written_more 10 (notdefs_payload len) 65535 cid_entry_seen (NotdefFits len) c.args.entries.now left here later c.args.out.now.items now new (omega arith) (some_left (length left) (eqb-false (length left) 0 (sym c.loop-left-test.ensures)))
    (c.split_at.ensures.front ∙ ap (λ n. take n left) c.min.ensures) (c.split_at.ensures.back ∙ ap (λ n. drop n left) c.min.ensures) c.loop-left.invariant added.1 payload.0

pub returns : goal.returns
returns c =
    let len = length_of c.args.len in
    let none : c.loop-left.left.now ≡ [] = nil_from_length c.loop-left.left.now (eqb-true (length c.loop-left.left.now) 0 (sym c.loop-left-test.ensures)) in
    (written_all 10 (notdefs_payload len) 65535 cid_entry_seen (NotdefFits len) c.args.entries.now c.args.out.now.items c.loop-left.out.items (subst (λ left. WrittenTo 10 (notdefs_payload len) 65535 cid_entry_seen (NotdefFits len) c.args.entries.now left c.args.out.now.items c.loop-left.out.items) none c.loop-left.invariant), tt)

pub returns-in_err-payload : goal.returns-in_err-payload
returns-in_err-payload c =
    let left = c.loop-left.left.now in
    let here = c.split_at.result.0.now in
    let later = c.split_at.result.1.now in
    let count = c.min.result in
    let cut : left ≡ here ++ later = sym (take-append-drop count left) ∙ ap (λ xs. xs ++ drop count left) (sym c.split_at.ensures.front) ∙ ap (λ xs. here ++ xs) (sym c.split_at.ensures.back) in
    passed_on _ _ _ c.from_residual.ensures.1 c.in_err-payload.ensures.1 (notdefs_among (length_of c.args.len) c.args.entries.now c.loop-left.invariant.done left here later c.loop-left.invariant.parts cut)

pub returns-in_err-push_segment : goal.returns-in_err-push_segment
returns-in_err-push_segment c =
    let len = length_of c.args.len in
    let here = c.split_at.result.0.now in
    let payload = c.in_ok-payload.ensures.0 in
    let short = short_notdefs len (map cid_entry_seen here) (omega (arith, c.split_at.ensures.front_len, c.min.ensures, length-map here cid_entry_seen)) payload.0 in
    long_passed_on _ _ _ _ _ c.from_residual-in_err-push_segment.ensures.1 c.in_err-push_segment.ensures.err (λ long. omega (arith, long, short, ap length c.deref.ensures.value, ap length payload.1))
