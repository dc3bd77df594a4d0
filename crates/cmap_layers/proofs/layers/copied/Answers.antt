use Rattle.std.proofs.Common.{ap, sym, ◌∙◌, [], ◌∷◌, ◌++◌}
use Rattle.std.proofs.lemmas.List.{map-append, map_more, take_all}
use Rattle.cmap_layers.specs.LayersSeen.{layer_seen, layers_seen}
use Rattle.cmap_layers.proofs.layers.copied.Goals as goal

pub loop-layer-init : goal.loop-layer-init
loop-layer-init c = ap layers_seen c.new-copies.ensures.items

pub loop-layer-preserved : goal.loop-layer-preserved
loop-layer-preserved c =
    let (last, made, items) = c.in_ok-put_last.ensures.added in
    ap layers_seen items ∙ map-append layer_seen _ _
    ∙ (λ k. c.loop-layer.invariant k ++ (rw made at c.clone.ensures ∙ ap layer_seen c.layer-item.is) k ∷ [])
    ∙ sym (map_more layer_seen c.args.layers.now c.loop-layer.layer-index c.layer-item.result c.loop-layer-test.true)

pub returns : goal.returns
returns c = rw (take_all c.loop-layer.layer-index c.args.layers.now c.loop-layer-test.false) at c.loop-layer.invariant
