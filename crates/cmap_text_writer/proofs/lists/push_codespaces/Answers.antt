use Rattle.std.proofs.Common.{◌∙◌, ◌++◌, ◌≡◌, List, drop, map, ap, sym}
use Rattle.std.proofs.lemmas.List.{map-append, take-append-drop}
use Rattle.cmap_values.specs.DeclarationsSeen.{codespace_seen}
use Rattle.cmap_values.specs.Files.{Declaration}
use Rattle.cmap_values.specs.declared.declarations.Codespace.{Codespace}
use Rattle.cmap_text_writer.specs.Fits.{IsSpaceFitting}
use Rattle.cmap_text_writer.specs.Told.{TellsAnyway}
use Rattle.cmap_text_writer.proofs.SectionsTold.{anyway_joined, done_more, done_none, no_sections_anyway}
use Rattle.cmap_text_writer.proofs.Walked.{all_here}
use Rattle.cmap_text_writer.proofs.lists.push_codespaces.Goals as goal

pub loop-left-init : goal.loop-left-init
loop-left-init c = done_none (λ (xs : List Codespace). TellsAnyway (map Declaration.codespace (map codespace_seen xs))) no_sections_anyway _ _

pub push_space_section-requires-clause-fit : goal.push_space_section-requires-clause-fit
push_space_section-requires-clause-fit c =
    let left = c.loop-left.left.now in
    let here = c.split_at.result.0.now in
    let later = c.split_at.result.1.now in
    let count = c.min.result in
    let cut : left ≡ here ++ later = sym (take-append-drop count left) ∙ ap (λ xs. xs ++ drop count left) (sym c.split_at.ensures.front) ∙ ap (λ xs. here ++ xs) (sym c.split_at.ensures.back) in
    all_here IsSpaceFitting codespace_seen c.args.spaces.now c.loop-left.invariant.done left here later c.loop-left.invariant.parts cut c.requires

pub loop-left-preserved : goal.loop-left-preserved
loop-left-preserved c =
    let left = c.loop-left.left.now in
    let here = c.split_at.result.0.now in
    let later = c.split_at.result.1.now in
    let count = c.min.result in
    let cut : left ≡ here ++ later = sym (take-append-drop count left) ∙ ap (λ xs. xs ++ drop count left) (sym c.split_at.ensures.front) ∙ ap (λ xs. here ++ xs) (sym c.split_at.ensures.back) in
    done_more (λ (xs : List Codespace). TellsAnyway (map Declaration.codespace (map codespace_seen xs))) (anyway_joined (λ (xs : List Codespace). map Declaration.codespace (map codespace_seen xs)) (λ a b. ap (map Declaration.codespace) (map-append codespace_seen a b) ∙ map-append Declaration.codespace (map codespace_seen a) (map codespace_seen b))) c.args.spaces.now left here later c.args.out.now.items c.loop-left.out.items c.push_space_section.new.out.items c.loop-left.invariant cut c.in_ok-push_space_section.ensures
