-- What the top layer says of itself is what the layer 0 says.
use Rattle.std.proofs.Common.{◌≡◌, List, [], ◌∷◌, Option, Some, None, refl}
use Rattle.cmap_layers.specs.Layers.{Layer}
use Rattle.cmap_handles.specs.Handles.{handle_metadata, layer_metadata}

pub top_layer : (map : Option (List Layer)) → handle_metadata map ≡ layer_metadata map 0
top_layer None = refl
top_layer (Some []) = refl
top_layer (Some (top ∷ below)) = refl
