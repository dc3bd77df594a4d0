use Rattle.std.proofs.Common.{sym, ◌∙◌, [], ◌∷◌, ◌++◌, arith}
use Rattle.std.proofs.lemmas.List.{take_all}
use Rattle.cmap_layers.proofs.TablesCopied.{take_next}
use Rattle.cmap_layers.proofs.layer.copied_cids.Goals as goal

pub loop-index-preserved : goal.loop-index-preserved
loop-index-preserved c =
    c.in_ok-push.ensures.items ∙ (λ k. c.loop-index.invariant k ++ c.clone.ensures k ∷ [])
    ∙ sym (take_next c.args.table.now c.loop-index.index c.decl.result.now c.decl.ensures.declaration)

pub returns : goal.returns
returns c = c.loop-index.invariant ∙ take_all c.loop-index.index c.args.table.now (omega arith)
