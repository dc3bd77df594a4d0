use Rattle.std.proofs.Common.{ap, subst}
use Rattle.std.proofs.lemmas.Result.{IfOk-from_err, IfOk-weaker}
use Rattle.cmap_values.specs.DeclarationsSeen.{by_length_seen, entries_seen}
use Rattle.cmap_binary_writer.specs.Arranged.{AddsCidEntries}
use Rattle.cmap_binary_writer.specs.PreparedFiles.{AddsSameCids}
use Rattle.cmap_binary_writer.proofs.Arranged.{by_lengths}
use Rattle.cmap_binary_writer.proofs.PreparedKept.{cid_lists}
use Rattle.cmap_values.proofs.Outcomes.{refused_on, refuses_on}
use Rattle.cmap_binary_writer.proofs.ObstaclesMet.{by_cid_list}
use Rattle.cmap_binary_writer.proofs.prepared.add_cid_lists.Goals as goal

pub returns-clause-added : goal.returns-clause-added
returns-clause-added c =
    let o = c.args.segments.now.items in
    let a = c.add_cid_list.new.segments.items in
    let b = c.add_cid_list-2.new.segments.items in
    let d = c.add_cid_list-3.new.segments.items in
    let e = c.add_cid_list-4.new.segments.items in
    let first = subst (λ xs. AddsSameCids 1 (entries_seen xs) o a) c.deref.ensures.value c.in_ok-add_cid_list.ensures.added in
    let second = subst (λ xs. AddsSameCids 2 (entries_seen xs) a b) c.deref-2.ensures.value c.in_ok-add_cid_list-2.ensures.added in
    let third = subst (λ xs. AddsSameCids 3 (entries_seen xs) b d) c.deref-3.ensures.value c.in_ok-add_cid_list-3.ensures.added in
    IfOk-weaker _ _ _ (λ _ last. cid_lists c.args.lists.now o a b d e first second third (subst (λ xs. AddsSameCids 4 (entries_seen xs) d e) c.deref-4.ensures.value last)) c.add_cid_list-4.ensures.added

pub returns-in_err-add_cid_list-2-clause-err : goal.returns-in_err-add_cid_list-2-clause-err
returns-in_err-add_cid_list-2-clause-err c = refuses_on _ _ c.from_residual-in_err-add_cid_list-2.ensures.1 c.in_err-add_cid_list-2.ensures.err (by_cid_list (by_length_seen c.args.lists.now) 2 _ (ap entries_seen c.deref-2.ensures.value))

pub returns-in_err-add_cid_list-3-clause-err : goal.returns-in_err-add_cid_list-3-clause-err
returns-in_err-add_cid_list-3-clause-err c = refuses_on _ _ c.from_residual-in_err-add_cid_list-3.ensures.1 c.in_err-add_cid_list-3.ensures.err (by_cid_list (by_length_seen c.args.lists.now) 3 _ (ap entries_seen c.deref-3.ensures.value))

pub returns-in_err-add_cid_list-clause-err : goal.returns-in_err-add_cid_list-clause-err
returns-in_err-add_cid_list-clause-err c = refuses_on _ _ c.from_residual.ensures.1 c.in_err-add_cid_list.ensures.err (by_cid_list (by_length_seen c.args.lists.now) 1 _ (ap entries_seen c.deref.ensures.value))

pub returns-clause-err : goal.returns-clause-err
returns-clause-err c = refused_on _ c.add_cid_list-4.ensures.err (by_cid_list (by_length_seen c.args.lists.now) 4 _ (ap entries_seen c.deref-4.ensures.value))

pub returns-in_err-add_cid_list-clause-added : goal.returns-in_err-add_cid_list-clause-added
returns-in_err-add_cid_list-clause-added c = IfOk-from_err _ _ c.from_residual.ensures.0

pub returns-in_err-add_cid_list-2-clause-added : goal.returns-in_err-add_cid_list-2-clause-added
returns-in_err-add_cid_list-2-clause-added c = IfOk-from_err _ _ c.from_residual-in_err-add_cid_list-2.ensures.0

pub returns-in_err-add_cid_list-3-clause-added : goal.returns-in_err-add_cid_list-3-clause-added
returns-in_err-add_cid_list-3-clause-added c = IfOk-from_err _ _ c.from_residual-in_err-add_cid_list-3.ensures.0

pub returns-clause-arranged : goal.returns-clause-arranged
returns-clause-arranged c =
    let o = c.args.segments.now.items in
    let a = c.add_cid_list.new.segments.items in
    let b = c.add_cid_list-2.new.segments.items in
    let d = c.add_cid_list-3.new.segments.items in
    let e = c.add_cid_list-4.new.segments.items in
    let first = subst (λ xs. AddsCidEntries 1 (entries_seen xs) o a) c.deref.ensures.value c.in_ok-add_cid_list.ensures.arranged in
    let second = subst (λ xs. AddsCidEntries 2 (entries_seen xs) a b) c.deref-2.ensures.value c.in_ok-add_cid_list-2.ensures.arranged in
    let third = subst (λ xs. AddsCidEntries 3 (entries_seen xs) b d) c.deref-3.ensures.value c.in_ok-add_cid_list-3.ensures.arranged in
    IfOk-weaker _ _ _ (λ _ last. by_lengths (by_length_seen c.args.lists.now) o a b d e first second third (subst (λ xs. AddsCidEntries 4 (entries_seen xs) d e) c.deref-4.ensures.value last)) c.add_cid_list-4.ensures.arranged

pub returns-in_err-add_cid_list-clause-arranged : goal.returns-in_err-add_cid_list-clause-arranged
returns-in_err-add_cid_list-clause-arranged c = IfOk-from_err _ _ c.from_residual.ensures.0

pub returns-in_err-add_cid_list-2-clause-arranged : goal.returns-in_err-add_cid_list-2-clause-arranged
returns-in_err-add_cid_list-2-clause-arranged c = IfOk-from_err _ _ c.from_residual-in_err-add_cid_list-2.ensures.0

pub returns-in_err-add_cid_list-3-clause-arranged : goal.returns-in_err-add_cid_list-3-clause-arranged
returns-in_err-add_cid_list-3-clause-arranged c = IfOk-from_err _ _ c.from_residual-in_err-add_cid_list-3.ensures.0
