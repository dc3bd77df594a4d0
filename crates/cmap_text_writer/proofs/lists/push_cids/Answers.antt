use Rattle.std.proofs.Common.{◌∙◌, ◌++◌, ◌≡◌, List, drop, map, ap, sym}
use Rattle.std.proofs.lemmas.List.{map-append, take-append-drop}
use Rattle.cmap_values.specs.DeclarationsSeen.{cid_entry_seen, entries_seen}
use Rattle.cmap_values.specs.declared.declarations.CidRange.{CidRange}
use Rattle.cmap_text.specs.TextFiles.{declares_cid}
use Rattle.cmap_values.specs.CodeLengths.{length_of}
use Rattle.cmap_text_writer.specs.Fits.{BeginsFitting}
use Rattle.cmap_text.specs.TextSeen.{kind_seen}
use Rattle.cmap_text_writer.specs.Told.{TellsAnyway}
use Rattle.cmap_text_writer.proofs.SectionsTold.{anyway_joined, done_more, done_none, no_sections_anyway}
use Rattle.cmap_text_writer.proofs.Walked.{all_here}
use Rattle.cmap_text_writer.proofs.lists.push_cids.Goals as goal

pub loop-left-init : goal.loop-left-init
loop-left-init c = done_none (λ (xs : List CidRange). TellsAnyway (map (declares_cid (kind_seen c.args.kind) (length_of c.args.len)) (entries_seen xs))) no_sections_anyway _ _

pub push_cid_section-requires-clause-start : goal.push_cid_section-requires-clause-start
push_cid_section-requires-clause-start c =
    let left = c.loop-left.left.now in
    let here = c.split_at.result.0.now in
    let later = c.split_at.result.1.now in
    let count = c.next_cid_section.result in
    let cut : left ≡ here ++ later = sym (take-append-drop count left) ∙ ap (λ xs. xs ++ drop count left) (sym c.split_at.ensures.front) ∙ ap (λ xs. here ++ xs) (sym c.split_at.ensures.back) in
    all_here (BeginsFitting (length_of c.args.len)) cid_entry_seen c.args.entries.now c.loop-left.invariant.done left here later c.loop-left.invariant.parts cut c.requires

pub loop-left-preserved : goal.loop-left-preserved
loop-left-preserved c =
    let say = declares_cid (kind_seen c.args.kind) (length_of c.args.len) in
    let left = c.loop-left.left.now in
    let here = c.split_at.result.0.now in
    let later = c.split_at.result.1.now in
    let count = c.next_cid_section.result in
    let cut : left ≡ here ++ later = sym (take-append-drop count left) ∙ ap (λ xs. xs ++ drop count left) (sym c.split_at.ensures.front) ∙ ap (λ xs. here ++ xs) (sym c.split_at.ensures.back) in
    done_more (λ (xs : List CidRange). TellsAnyway (map say (entries_seen xs))) (anyway_joined (λ (xs : List CidRange). map say (entries_seen xs)) (λ a b. ap (map say) (map-append cid_entry_seen a b) ∙ map-append say (entries_seen a) (entries_seen b))) c.args.entries.now left here later c.args.out.now.items c.loop-left.out.items c.push_cid_section.new.out.items c.loop-left.invariant cut c.in_ok-push_cid_section.ensures
