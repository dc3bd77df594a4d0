use Rattle.std.proofs.Common.{◌++◌, map, subst}
use Rattle.std.proofs.lemmas.Result.{IfOk-weaker}
use Rattle.cmap_values.specs.DeclarationsSeen.{bf_entry_seen, codespace_seen, lists_seen}
use Rattle.cmap_values.specs.Files.{Declaration}
use Rattle.cmap_values.specs.ListsByKind.{by_length}
use Rattle.cmap_text_writer.specs.Lengths.{text_length}
use Rattle.cmap_text_writer.specs.Told.{Appends, TellsAnyway, TellsSections}
use Rattle.cmap_text_writer.proofs.SectionsTold.{anyway_appended_both, at_lengths, sections_appended_both}
use Rattle.cmap_text_writer.proofs.lists.push_lists.Goals as goal

pub returns : goal.returns
returns c =
    let lengths = text_length c.args.lengths in
    let l = lists_seen c.args.lists.now in
    let notdefs = by_length Declaration.notdef l.notdefs.one l.notdefs.two l.notdefs.three l.notdefs.four in
    let cids = by_length Declaration.cid l.cids.one l.cids.two l.cids.three l.cids.four in
    let spaces = map Declaration.codespace l.spaces in
    let texts = map Declaration.bf l.bfs in
    let o = c.args.out.now.items in
    let a = c.push_codespaces.new.out.items in
    let b = c.push_by_length.new.out.items in
    let d = c.push_by_length-2.new.out.items in
    let new = c.push_texts.new.out.items in
    let first = subst (λ xs. Appends o a (TellsAnyway (map Declaration.codespace (map codespace_seen xs)))) c.deref.ensures.value c.in_ok-push_codespaces.ensures in
    IfOk-weaker _ _ _ (λ _ last. sections_appended_both lengths (spaces ++ notdefs) (cids ++ texts) o b new (at_lengths lengths (spaces ++ notdefs) o b (anyway_appended_both spaces notdefs o a b first c.in_ok-push_by_length.ensures))
    (sections_appended_both lengths cids texts b d new (at_lengths lengths cids b d c.in_ok-push_by_length-2.ensures) (subst (λ xs. Appends d new (TellsSections lengths (map Declaration.bf (map bf_entry_seen xs)))) c.deref-2.ensures.value last))) c.push_texts.ensures
