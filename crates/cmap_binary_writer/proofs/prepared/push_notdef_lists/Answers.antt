use Rattle.std.proofs.Common.{◌≡◌, ◌++◌, ap, subst}
use Rattle.std.specs.List.{All}
use Rattle.cmap_values.specs.DeclarationsSeen.{by_length_seen, entries_seen}
use Rattle.cmap_values.proofs.Outcomes.{passed_on}
use Rattle.cmap_binary_writer.specs.Fields.{NotdefFits, notdefs_bytes}
use Rattle.cmap_binary_writer.proofs.ObstaclesMet.{by_notdef_list, handed_on}
use Rattle.cmap_binary_writer.proofs.RowsAdded.{added_four}
use Rattle.cmap_binary_writer.proofs.prepared.push_notdef_lists.Goals as goal

pub returns : goal.returns
returns c =
    let o = c.args.out.now.items in
    let a = c.push_notdefs.new.out.items in
    let b = c.push_notdefs-2.new.out.items in
    let d = c.push_notdefs-3.new.out.items in
    let e = c.push_notdefs-4.new.out.items in
    let one = subst (λ xs. All (NotdefFits 1) (entries_seen xs) × (a ≡ o ++ notdefs_bytes 1 (entries_seen xs))) c.deref.ensures.value c.in_ok-push_notdefs.ensures.0 in
    let two = subst (λ xs. All (NotdefFits 2) (entries_seen xs) × (b ≡ a ++ notdefs_bytes 2 (entries_seen xs))) c.deref-2.ensures.value c.in_ok-push_notdefs-2.ensures.0 in
    let three = subst (λ xs. All (NotdefFits 3) (entries_seen xs) × (d ≡ b ++ notdefs_bytes 3 (entries_seen xs))) c.deref-3.ensures.value c.in_ok-push_notdefs-3.ensures.0 in
    handed_on c.push_notdefs-4.result c.push_notdefs-4.ensures
    (λ _ last.
    let four = subst (λ xs. All (NotdefFits 4) (entries_seen xs) × (e ≡ d ++ notdefs_bytes 4 (entries_seen xs))) c.deref-4.ensures.value last in
    (record { one = one.0; two = two.0; three = three.0; four = four.0 }, added_four o a b d e _ _ _ _ one.1 two.1 three.1 four.1))
    (by_notdef_list (by_length_seen c.args.lists.now) 4 _ (ap entries_seen c.deref-4.ensures.value))

pub returns-in_err-push_notdefs : goal.returns-in_err-push_notdefs
returns-in_err-push_notdefs c = passed_on _ _ _ c.from_residual.ensures.1 c.in_err-push_notdefs.ensures.1 (by_notdef_list (by_length_seen c.args.lists.now) 1 _ (ap entries_seen c.deref.ensures.value))

pub returns-in_err-push_notdefs-2 : goal.returns-in_err-push_notdefs-2
returns-in_err-push_notdefs-2 c = passed_on _ _ _ c.from_residual-in_err-push_notdefs-2.ensures.1 c.in_err-push_notdefs-2.ensures.1 (by_notdef_list (by_length_seen c.args.lists.now) 2 _ (ap entries_seen c.deref-2.ensures.value))

pub returns-in_err-push_notdefs-3 : goal.returns-in_err-push_notdefs-3
returns-in_err-push_notdefs-3 c = passed_on _ _ _ c.from_residual-in_err-push_notdefs-3.ensures.1 c.in_err-push_notdefs-3.ensures.1 (by_notdef_list (by_length_seen c.args.lists.now) 3 _ (ap entries_seen c.deref-3.ensures.value))
