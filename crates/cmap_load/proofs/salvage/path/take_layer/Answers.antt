use Rattle.std.proofs.Common.{◌≡◌, ◌∙◌, ap, sym}
use Rattle.std.specs.Prelude.{Some, slice_get}
use Rattle.cmap_layers.specs.LayersSeen.{layer_seen}
use Rattle.cmap_layers.specs.declared.layer.Layer.{Layer}
use Rattle.cmap_load.specs.Kept.{layer_in, layer_with}
use Rattle.cmap_load.specs.Tables.{contents_layer}
use Rattle.cmap_load.proofs.GraphGrowing.{slice_get-set_other}
use Rattle.cmap_load.proofs.Walked.{ok_as}
use Rattle.cmap_load.proofs.salvage.path.take_layer.Goals as goal

pub returns-clause-layer : goal.returns-clause-layer
returns-clause-layer c =
    let contents = c.args.contents.now.items in
    let here : layer_in contents c.args.read ≡ contents_layer c.take_contents-taken.result = ap (layer_in contents) c.in-Some.is ∙ ap layer_with c.take_contents-taken.ensures.taken in
    ok_as {P = λ (layer : Layer). layer_seen layer ≡ contents_layer c.take_contents-taken.result} {Q = λ (layer : Layer). layer_seen layer ≡ layer_in contents c.args.read} c.build.result c.build.ensures (λ layer is. is ∙ sym here)

pub returns-clause-others : goal.returns-clause-others
returns-clause-others c = λ at other.
    let (none, left) = c.take_contents-taken.ensures.left in
    ap (λ l. slice_get l at) left ∙ slice_get-set_other c.args.contents.now.items c.in-Some.at at none (λ same. other (c.in-Some.is ∙ ap Some (sym same)))
