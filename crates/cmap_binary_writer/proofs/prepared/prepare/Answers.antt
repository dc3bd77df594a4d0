use Rattle.std.proofs.Common.{◌≡◌, ◌∙◌, ◌++◌, ap, map, subst}
use Rattle.std.specs.List.{All}
use Rattle.cmap_values.specs.DeclarationsSeen.{bf_entry_seen, codespace_seen}
use Rattle.cmap_values.specs.FilesSeen.{file_seen}
use Rattle.cmap_values.specs.NamesSeen.{names_seen}
use Rattle.cmap_values.proofs.Outcomes.{passed_on}
use Rattle.cmap_binary_writer.specs.Arranged.{AddsByLength, AddsTextEntries}
use Rattle.cmap_binary_writer.specs.Fields.{FieldsFit, NameFits, SpaceFits, fields_of, spaces_bytes, uses_bytes}
use Rattle.cmap_binary_writer.specs.PreparedFiles.{AddsCidLists, AddsSameTexts}
use Rattle.cmap_binary_writer.specs.declared.prepared.Prepared.{Prepared}
use Rattle.cmap_binary_writer.proofs.Arranged.{arranged_is}
use Rattle.cmap_binary_writer.proofs.ObstaclesMet.{by_cids, by_metadata, by_notdefs, by_spaces, by_texts, by_uses}
use Rattle.cmap_binary_writer.proofs.PreparedKept.{prepared_is}
use Rattle.cmap_binary_writer.proofs.RowsAdded.{added_four}
use Rattle.cmap_binary_writer.proofs.Sayable.{sayable}
use Rattle.cmap_binary_writer.proofs.prepared.prepare.Goals as goal

pub returns : goal.returns
returns c =
    let file = file_seen c.args.file.now in
    let lists = c.args.file.now.lists in
    let a = c.push_metadata.new.out.items in
    let b = c.push_uses.new.out.items in
    let d = c.push_codespaces.new.out.items in
    let e = c.push_notdef_lists.new.out.items in
    let some = c.add_cid_lists.new.segments.items in
    let all = c.add_text_list.new.segments.items in
    let prepared : Prepared = record { fields = c.push_notdef_lists.new.out; segments = c.add_text_list.new.segments } in
    let metadata = c.in_ok-push_metadata.ensures.0 in
    let uses = subst (λ names. All NameFits (names_seen names) × (b ≡ a ++ uses_bytes (names_seen names))) c.deref.ensures.value c.in_ok-push_uses.ensures.0 in
    let spaces = subst (λ xs. All SpaceFits (map codespace_seen xs) × (d ≡ b ++ spaces_bytes (map codespace_seen xs))) c.deref-2.ensures.value c.in_ok-push_codespaces.ensures.0 in
    let notdefs = c.in_ok-push_notdef_lists.ensures.0 in
    let fit : FieldsFit file = record { metadata = metadata.0; uses = uses.0; spaces = spaces.0; notdefs = notdefs.0 } in
    let fields : e ≡ fields_of file = added_four c.new-fields.result.items a b d e _ _ _ _ metadata.1 uses.1 spaces.1 notdefs.1 ∙ ap (λ old. old ++ fields_of file) c.new-fields.ensures.items in
    let cids = subst (λ old. AddsCidLists lists.cids old some) c.new-segments.ensures.items c.in_ok-add_cid_lists.ensures.added in
    let (texts, added, same, few) = subst (λ xs. AddsSameTexts (map bf_entry_seen xs) some all) c.deref-3.ensures.value c.in_ok-add_text_list.ensures.added in
    let by_length = subst (λ old. AddsByLength file.lists.cids old some) c.new-segments.ensures.items c.in_ok-add_cid_lists.ensures.arranged in
    let in_order = subst (λ xs. AddsTextEntries (map bf_entry_seen xs) some all) c.deref-3.ensures.value c.in_ok-add_text_list.ensures.arranged in
    let arranged = arranged_is file prepared some fields by_length in_order in
    let made = prepared_is file prepared (record { one = cids.one; two = cids.two; three = cids.three; four = cids.four }) texts some fit fields cids.added added cids.one_same cids.two_same cids.three_same cids.four_same same cids.one_few cids.two_few cids.three_few cids.four_few few in
    (record { sayable = sayable file prepared fit arranged; says = made; arranged = arranged }, tt)

pub returns-in_err-push_metadata : goal.returns-in_err-push_metadata
returns-in_err-push_metadata c = passed_on _ _ _ c.from_residual.ensures.1 c.in_err-push_metadata.ensures.1 (by_metadata (file_seen c.args.file.now))

pub returns-in_err-push_uses : goal.returns-in_err-push_uses
returns-in_err-push_uses c = passed_on _ _ _ c.from_residual-in_err-push_uses.ensures.1 c.in_err-push_uses.ensures.1 (by_uses (file_seen c.args.file.now) _ (ap names_seen c.deref.ensures.value))

pub returns-in_err-push_codespaces : goal.returns-in_err-push_codespaces
returns-in_err-push_codespaces c = passed_on _ _ _ c.from_residual-in_err-push_codespaces.ensures.1 c.in_err-push_codespaces.ensures.1 (by_spaces (file_seen c.args.file.now) _ (ap (map codespace_seen) c.deref-2.ensures.value))

pub returns-in_err-push_notdef_lists : goal.returns-in_err-push_notdef_lists
returns-in_err-push_notdef_lists c = passed_on _ _ _ c.from_residual-in_err-push_notdef_lists.ensures.1 c.in_err-push_notdef_lists.ensures.1 (by_notdefs (file_seen c.args.file.now))

pub returns-in_err-add_cid_lists : goal.returns-in_err-add_cid_lists
returns-in_err-add_cid_lists c = passed_on _ _ _ c.from_residual-in_err-add_cid_lists.ensures.1 c.in_err-add_cid_lists.ensures.err (by_cids (file_seen c.args.file.now))

pub returns-in_err-add_text_list : goal.returns-in_err-add_text_list
returns-in_err-add_text_list c = passed_on _ _ _ c.from_residual-in_err-add_text_list.ensures.1 c.in_err-add_text_list.ensures.err (by_texts (file_seen c.args.file.now) _ (ap (map bf_entry_seen) c.deref-3.ensures.value))
