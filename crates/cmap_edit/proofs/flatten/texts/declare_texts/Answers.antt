use Rattle.std.proofs.Common.{◌≡◌, ◌∙◌, [], subst, ap, arith}
use Rattle.std.specs.Prelude.{All}
use Rattle.std.proofs.lemmas.List.{take_all}
use Rattle.std.proofs.lemmas.List.Elements.{All-nil}
use Rattle.cmap_layers.specs.LayersSeen.{layer_seen, layers_seen}
use Rattle.cmap_edit.proofs.WithoutTexts.{no_texts, one_more}
use Rattle.cmap_edit.proofs.flatten.texts.declare_texts.Goals as goal

pub loop-layer-init : goal.loop-layer-init
loop-layer-init c = All-nil (λ layer. layer.lists.bfs ≡ [])

pub loop-layer-preserved : goal.loop-layer-preserved
loop-layer-preserved c =
    one_more c.as_slice-layers.result.now c.loop-layer.layer-index c.layer-item.result c.loop-layer-test.true c.layer-item.is c.loop-layer.invariant
    (no_texts c.texts.result.now (layer_seen c.layer-item.result).lists.bfs (omega arith) c.texts.ensures)

pub returns : goal.returns
returns c = λ none.
    subst (All (λ layer. layer.lists.bfs ≡ [])) (ap layers_seen (take_all c.loop-layer.layer-index c.as_slice-layers.result.now c.loop-layer-test.false) ∙ c.as_slice-layers.ensures.layers) c.loop-layer.invariant
