use Rattle.std.proofs.Common.{sym, ap, ◌∙◌, [], ◌∷◌, ◌++◌, map}
use Rattle.std.proofs.lemmas.List.{map-append}
use Rattle.std.proofs.lemmas.Result.{IfOk-from_err}
use Rattle.cmap_values.specs.DeclarationsSeen.{bf_entry_seen}
use Rattle.cmap_layers.proofs.TablesCopied.{take_next-map}
use Rattle.cmap_layers.proofs.layer.copied_bfs.Goals as goal

pub loop-index-preserved : goal.loop-index-preserved
loop-index-preserved c =
    ap (map bf_entry_seen) c.in_ok-push.ensures.items
    ∙ map-append bf_entry_seen c.loop-index.list.items (c.in_ok-clone.field-0 ∷ [])
    ∙ (λ k. c.loop-index.invariant k ++ c.in_ok-clone.ensures k ∷ [])
    ∙ sym (take_next-map bf_entry_seen c.args.table.now c.loop-index.index c.decl.result.now c.decl.ensures.declaration)

pub returns-in_err-list : goal.returns-in_err-list
returns-in_err-list c = IfOk-from_err _ _ c.from_residual.ensures.0

pub returns-in_err-clone : goal.returns-in_err-clone
returns-in_err-clone c = IfOk-from_err _ _ c.from_residual-in_err-clone.ensures.0

pub returns-in_err-push : goal.returns-in_err-push
returns-in_err-push c = IfOk-from_err _ _ c.from_residual-in_err-push.ensures.0
