use Rattle.std.proofs.Common.{◌++◌, ◌∷◌, [], map, take, ap, sym, ◌∙◌}
use Rattle.std.proofs.lemmas.List.{map-append, take_more}
use Rattle.cmap_values.specs.DeclarationsSeen.{bf_entry_seen}
use Rattle.cmap_edit.proofs.tidy.copies.copied_texts.Goals as goal

pub loop-entry-preserved : goal.loop-entry-preserved
loop-entry-preserved c =
    let list = c.args.list.now in let index = c.loop-entry.entry-index in let item = c.entry-item.result in
    let copied = ap (map bf_entry_seen) c.in_ok-push.ensures.items ∙ map-append bf_entry_seen c.loop-entry.copy.items (c.in_ok-clone.field-0 ∷ []) in
    let next = ap (map bf_entry_seen) (take_more list index item c.loop-entry-test.true) ∙ map-append bf_entry_seen (take index list) _ in
    copied ∙ ap (λ es. es ++ bf_entry_seen c.in_ok-clone.field-0 ∷ []) c.loop-entry.invariant
    ∙ ap (λ e. map bf_entry_seen (take index list) ++ e ∷ []) (c.in_ok-clone.ensures ∙ ap bf_entry_seen c.entry-item.is) ∙ sym next
