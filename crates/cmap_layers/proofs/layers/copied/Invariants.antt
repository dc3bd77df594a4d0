use Rattle.std.proofs.Common.{◌≡◌, take}
use Rattle.cmap_layers.specs.LayersSeen.{layers_seen}
use Rattle.cmap_layers.proofs.layers.copied.Given as goal

abbrev pub invariant-loop-layer : goal.invariant-loop-layer
invariant-loop-layer l = layers_seen l.copies.items ≡ layers_seen (take l.layer-index l.layers)
