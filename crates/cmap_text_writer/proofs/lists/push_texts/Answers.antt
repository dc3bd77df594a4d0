use Rattle.std.proofs.Common.{◌∙◌, ◌++◌, ◌≡◌, List, drop, map, ap, sym, subst}
use Rattle.std.specs.Prelude.{All}
use Rattle.std.proofs.lemmas.List.{map-append, take-append-drop}
use Rattle.std.proofs.lemmas.List.Elements.{All-map}
use Rattle.cmap_values.specs.DeclarationsSeen.{bf_entry_seen}
use Rattle.cmap_values.specs.Files.{Declaration}
use Rattle.cmap_values.specs.declared.declarations.BfRange.{BfRange}
use Rattle.cmap_text_writer.specs.Fits.{HasUnits, IsOfExtent}
use Rattle.cmap_text_writer.specs.Lengths.{text_length}
use Rattle.cmap_text.specs.TextSeen.{extent_seen}
use Rattle.cmap_text_writer.specs.Told.{TellsSections}
use Rattle.cmap_text_writer.proofs.SectionsTold.{done_more, done_none, no_sections, sections_joined}
use Rattle.cmap_text_writer.proofs.Walked.{all_here}
use Rattle.cmap_text_writer.proofs.lists.push_texts.Goals as goal

pub loop-left-init : goal.loop-left-init
loop-left-init c = done_none (λ (xs : List BfRange). TellsSections (text_length c.args.lengths) (map Declaration.bf (map bf_entry_seen xs))) (no_sections (text_length c.args.lengths)) _ _

pub push_text_section-requires-clause-units : goal.push_text_section-requires-clause-units
push_text_section-requires-clause-units c =
    let left = c.loop-left.left.now in
    let here = c.split_at.result.0.now in
    let later = c.split_at.result.1.now in
    let count = c.next_text_section-extent.result.1 in
    let cut : left ≡ here ++ later = sym (take-append-drop count left) ∙ ap (λ xs. xs ++ drop count left) (sym c.split_at.ensures.front) ∙ ap (λ xs. here ++ xs) (sym c.split_at.ensures.back) in
    all_here HasUnits bf_entry_seen c.args.entries.now c.loop-left.invariant.done left here later c.loop-left.invariant.parts cut c.requires

pub push_text_section-requires-clause-extent : goal.push_text_section-requires-clause-extent
push_text_section-requires-clause-extent c =
    let extent = extent_seen c.next_text_section-extent.result.0 in
    All-map (λ e. IsOfExtent extent e.start e.end) bf_entry_seen c.split_at.result.0.now (subst (All (λ (e : BfRange). IsOfExtent extent e.range.start e.range.end)) (sym c.split_at.ensures.front) c.next_text_section-extent.ensures.all)

pub loop-left-preserved : goal.loop-left-preserved
loop-left-preserved c =
    let left = c.loop-left.left.now in
    let here = c.split_at.result.0.now in
    let later = c.split_at.result.1.now in
    let count = c.next_text_section-extent.result.1 in
    let cut : left ≡ here ++ later = sym (take-append-drop count left) ∙ ap (λ xs. xs ++ drop count left) (sym c.split_at.ensures.front) ∙ ap (λ xs. here ++ xs) (sym c.split_at.ensures.back) in
    done_more (λ (xs : List BfRange). TellsSections (text_length c.args.lengths) (map Declaration.bf (map bf_entry_seen xs))) (sections_joined (text_length c.args.lengths) (λ (xs : List BfRange). map Declaration.bf (map bf_entry_seen xs)) (λ a b. ap (map Declaration.bf) (map-append bf_entry_seen a b) ∙ map-append Declaration.bf (map bf_entry_seen a) (map bf_entry_seen b))) c.args.entries.now left here later c.args.out.now.items c.loop-left.out.items c.push_text_section.new.out.items c.loop-left.invariant cut c.in_ok-push_text_section.ensures
