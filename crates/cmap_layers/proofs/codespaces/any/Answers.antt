use Rattle.std.proofs.Common.{refl, arith}
use Rattle.std.specs.Prelude.{Any}
use Rattle.cmap_codespaces.specs.SpaceBits.{InRows}
use Rattle.cmap_codespaces.proofs.SpacesFound.{only_item}
use Rattle.cmap_layers.specs.Layers as layers
use Rattle.cmap_layers.specs.LayersSeen.{layer_seen}
use Rattle.cmap_layers.proofs.SpacesFound.{any_of_one}
use Rattle.cmap_layers.proofs.codespaces.any.Goals as goal

pub returns-in-len1 : goal.returns-in-len1
returns-in-len1 c =
    let layer = c.only-item.result in
    let is = only_item c.args.layers.now layer (omega (arith, c.in-len1.len_at_least, c.in-len1.len_below)) c.only-item.is in
    let HasOne = λ (layer : layers.Layer). Any (InRows c.args.query.now) layer.lists.spaces in
    rw is (λ yes. (0, layer_seen layer, omega arith, refl, c.any.ensures.0 yes), λ some. c.any.ensures.1 (any_of_one HasOne (layer_seen layer) some))
