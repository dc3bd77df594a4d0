use Rattle.std.proofs.Common.{◌≡◌, ◌<◌, ◌^◌, ◌∙◌, [], ◌∷◌, ◌++◌, All, ap, map, subst, sym, take}
use Rattle.std.proofs.lemmas.List.{map_more, map_push, take_all}
use Rattle.std.proofs.lemmas.List.Elements.{All-push, All-same}
use Rattle.std.proofs.lemmas.Result.{IfOk-from_err, IfOk-weaker}
use Rattle.cmap_values.specs.DeclarationsSeen.{bf_entry_seen}
use Rattle.cmap_values.specs.declared.declarations.BfRange.{BfRange}
use Rattle.cmap_binary_writer.proofs.text_parts.text_table.Goals as goal

pub loop-entry-preserved : goal.loop-entry-preserved
loop-entry-preserved c =
    let list = c.args.list.now in
    let i = c.loop-entry.entry-index in
    let copy = c.loop-entry.copy.items in
    let e = c.in_ok-copy_of_text.field-0 in
    let pushed = c.in_ok-push.ensures.items in
    let same = c.in_ok-copy_of_text.ensures.same ∙ ap bf_entry_seen c.entry-item.is in
    record {
      same = ap (map bf_entry_seen) pushed ∙ map_push bf_entry_seen copy e ∙ ap (λ es. es ++ bf_entry_seen e ∷ []) c.loop-entry.invariant.same ∙ ap (λ seen. map bf_entry_seen (take i list) ++ seen ∷ []) same ∙ sym (map_more bf_entry_seen list i c.entry-item.result c.loop-entry-test.true);
      small = subst (All (λ (r : BfRange). r.range.end < 2 ^ 32)) (sym pushed) (All-push (λ (r : BfRange). r.range.end < 2 ^ 32) copy e c.loop-entry.invariant.small c.in_ok-copy_of_text.ensures.small);
    }

pub returns : goal.returns
returns c =
    let list = c.args.list.now in
    let i = c.loop-entry.entry-index in
    let inv = c.loop-entry.invariant in
    IfOk-weaker c.build.result _ (λ table. (map bf_entry_seen table ≡ map bf_entry_seen list) × All (λ (r : BfRange). r.range.end < 2 ^ 32) table) (λ table is. (ap (map bf_entry_seen) is ∙ inv.same ∙ ap (map bf_entry_seen) (take_all i list c.loop-entry-test.false), All-same (λ (r : BfRange). r.range.end < 2 ^ 32) table c.loop-entry.copy.items is inv.small)) c.build.ensures

pub returns-in_err-copy : goal.returns-in_err-copy
returns-in_err-copy c = IfOk-from_err _ _ c.from_residual.ensures.0

pub returns-in_err-copy_of_text : goal.returns-in_err-copy_of_text
returns-in_err-copy_of_text c = IfOk-from_err _ _ c.from_residual-in_err-copy_of_text.ensures.0

pub returns-in_err-push : goal.returns-in_err-push
returns-in_err-push c = IfOk-from_err _ _ c.from_residual-in_err-push.ensures.0
