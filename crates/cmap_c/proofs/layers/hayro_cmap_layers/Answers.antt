use Rattle.std.proofs.Common.{◌≡◌, ◌∙◌, ◌≤◌, Some, ap, length, refl, sym}
use Rattle.std.proofs.Math.ListN.{length-map}
use Rattle.cmap_layers.specs.LayersSeen.{layer_seen, layers_seen}
use Rattle.cmap_handles.proofs.HandlesRead.{no_map, of_map}
use Rattle.cmap_c.proofs.layers.hayro_cmap_layers.Goals as goal

pub returns-in-Some-clause-count : goal.returns-in-Some-clause-count
returns-in-Some-clause-count c =
    let layers = c.as_slice in
    of_map _ (layers_seen layers.result.now) _ (λ given. (length layers.result.now ≡ length given) × (1 ≤ length layers.result.now) × (length layers.result.now ≤ 16)) (ap Some layers.ensures.layers ∙ c.in-Some.ensures.map)
    (sym (length-map layers.result.now layer_seen), layers.ensures.few.0, layers.ensures.few.1)

pub returns-in-None-clause-count : goal.returns-in-None-clause-count
returns-in-None-clause-count c = no_map _ _ _ c.in-None.ensures.map refl
