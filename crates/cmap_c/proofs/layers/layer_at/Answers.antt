use Rattle.std.proofs.Common.{◌≡◌, ◌∙◌, ◌<◌, ◌≤◌, ℕ, List, Option, None, Some, ap, get_or, length, refl, sym}
use Rattle.std.specs.Option.{option_copied}
use Rattle.std.specs.Prelude.{option_map}
use Rattle.std.proofs.lemmas.Option.{slice_get-map, slice_get_past, slice_get_read}
use Rattle.cmap_layers.specs.Layers as specs
use Rattle.cmap_layers.specs.LayersSeen.{layer_seen, layers_seen}
use Rattle.cmap_layers.specs.declared.layer.Layer.{Layer}
use Rattle.cmap_handles.specs.Handles.{layer_in}
use Rattle.cmap_c.proofs.layers.layer_at.Goals as goal

-- the item of the layers that are lent, as a map shows it
of_lent : (layers : List Layer) (map : List specs.Layer) (seen : Option (List specs.Layer)) (i : ℕ) (item : Layer) → layers_seen layers ≡ map → Some map ≡ seen → i < length layers → item ≡ get_or layers i item
    → Some (layer_seen item) ≡ layer_in seen i
of_lent layers map seen i item shown same within read =
    ap (option_map layer_seen) (sym (slice_get_read layers (length layers) i item refl within read)) ∙ sym (slice_get-map layer_seen layers i) ∙ ap (λ map. layer_in map i) (ap Some shown ∙ same)

past_lent : (layers : List Layer) (map : List specs.Layer) (seen : Option (List specs.Layer)) (i : ℕ) → layers_seen layers ≡ map → Some map ≡ seen → length layers ≤ i → None ≡ layer_in seen i
past_lent layers map seen i shown same past =
    ap (option_map layer_seen) (sym (slice_get_past layers i past)) ∙ sym (slice_get-map layer_seen layers i) ∙ ap (λ map. layer_in map i) (ap Some shown ∙ same)

pub returns-then-layer-layers : goal.returns-then-layer-layers
returns-then-layer-layers c = of_lent c.as_slice-layers.result.now _ _ c.args.layer c.index-layers-layer.result c.as_slice-layers.ensures.layers (sym (ap option_copied c.in_ok-map.was)) c.if-layer-layers.true c.index-layers-layer.is

pub returns-else-layer-layers : goal.returns-else-layer-layers
returns-else-layer-layers c = past_lent c.as_slice-layers.result.now _ _ c.args.layer c.as_slice-layers.ensures.layers (sym (ap option_copied c.in_ok-map.was)) c.if-layer-layers.false
