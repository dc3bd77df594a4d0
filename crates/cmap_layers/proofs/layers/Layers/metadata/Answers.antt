use Rattle.std.proofs.Common.{◌≡◌, ◌∙◌, ◌<◌, List, [], ◌∷◌, ap, get_or, length, sym}
use Rattle.std.specs.Prelude.{Some}
use Rattle.cmap_layers.specs.Layers.{top_metadata}
use Rattle.cmap_layers.specs.LayersSeen.{layer_seen, layers_seen}
use Rattle.cmap_layers.specs.declared.layer.Layer.{Layer}
use Rattle.cmap_layers.proofs.layers.Layers.metadata.Goals as goal

-- the metadata of the first layer
of_first : (layers : List Layer) (first : Layer) → 0 < length layers → first ≡ get_or layers 0 first → top_metadata (layers_seen layers) ≡ Some (layer_seen first).metadata
of_first [] first some is = elim some [ ]
of_first (layer ∷ more) first some is = ap (λ l. Some (layer_seen l).metadata) (sym is)

pub returns-clause-top : goal.returns-clause-top
returns-clause-top c =
    ap top_metadata (sym c.as_slice.ensures.layers) ∙ of_first c.as_slice.result.now c.index-as_slice-0.result c.as_slice.ensures.few.0 c.index-as_slice-0.is ∙ ap Some (sym c.metadata.ensures)
