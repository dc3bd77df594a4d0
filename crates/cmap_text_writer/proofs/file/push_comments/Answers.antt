use Rattle.std.proofs.Common.{◌≡◌, ◌∙◌, ◌++◌, ℕ, List, Vec, Global, ap, subst, sym}
use Rattle.std.specs.Prelude.{codes, option_map}
use Rattle.std.proofs.lemmas.Result.{IfOk-weaker}
use Rattle.cmap_text_writer.specs.FileItems.{comments_text, resource_text}
use Rattle.cmap_text_writer.proofs.Walked.{joined}
use Rattle.cmap_text_writer.proofs.file.push_comments.Goals as goal

abbrev first : List ℕ
first = codes "%!PS-Adobe-3.0 Resource-CMap\n"

pub returns-in-Some : goal.returns-in-Some
returns-in-Some c =
    let old = c.args.out.now.items in
    let mid = c.extend_from_slice.new.self.items in
    let new = c.push_resource.new.out.items in
    let name = c.in-Some.name.items in
    IfOk-weaker _ _ _ (λ _ written. subst (λ o. new ≡ old ++ comments_text (option_map (λ (name : Vec ℕ Global). name.items) o)) (sym c.in-Some.is)
    (joined old mid new first (resource_text name) c.in_ok-extend_from_slice.ensures.items (written ∙ ap (λ n. mid ++ resource_text n) c.deref.ensures.value))) c.push_resource.ensures
