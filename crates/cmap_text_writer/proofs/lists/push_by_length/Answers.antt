use Rattle.std.proofs.Common.{map, subst}
use Rattle.std.proofs.lemmas.Result.{IfOk-weaker}
use Rattle.cmap_values.specs.DeclarationsSeen.{entries_seen}
use Rattle.cmap_text.specs.TextFiles.{declares_cid}
use Rattle.cmap_text.specs.TextSeen.{kind_seen}
use Rattle.cmap_text_writer.specs.Told.{Appends, TellsAnyway}
use Rattle.cmap_text_writer.proofs.SectionsTold.{anyway_appended_both}
use Rattle.cmap_text_writer.proofs.lists.push_by_length.Goals as goal

pub returns : goal.returns
returns c =
    let say = declares_cid (kind_seen c.args.kind) in
    let o = c.args.out.now.items in
    let a = c.push_cids.new.out.items in
    let b = c.push_cids-2.new.out.items in
    let d = c.push_cids-3.new.out.items in
    let new = c.push_cids-4.new.out.items in
    let first = subst (λ xs. Appends o a (TellsAnyway (map (say 1) (entries_seen xs)))) c.deref.ensures.value c.in_ok-push_cids.ensures in
    let second = subst (λ xs. Appends a b (TellsAnyway (map (say 2) (entries_seen xs)))) c.deref-2.ensures.value c.in_ok-push_cids-2.ensures in
    let third = subst (λ xs. Appends b d (TellsAnyway (map (say 3) (entries_seen xs)))) c.deref-3.ensures.value c.in_ok-push_cids-3.ensures in
    IfOk-weaker _ _ _ (λ _ last. anyway_appended_both _ _ o a new first (anyway_appended_both _ _ a b new second (anyway_appended_both _ _ b d new third (subst (λ xs. Appends d new (TellsAnyway (map (say 4) (entries_seen xs)))) c.deref-4.ensures.value last)))) c.push_cids-4.ensures
