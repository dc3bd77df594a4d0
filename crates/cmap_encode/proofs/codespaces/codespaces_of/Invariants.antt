use Rattle.std.proofs.Common.{◌≡◌, length, map, take}
use Rattle.cmap_layers.specs.LayersSeen.{layers_seen}
use Rattle.cmap_encode.specs.StringsOfCodes.{only_spaces}
use Rattle.cmap_encode.proofs.codespaces.codespaces_of.Given as goal

abbrev pub invariant-loop-layer : goal.invariant-loop-layer
invariant-loop-layer l = record {
  seen : layers_seen l.list.items ≡ map only_spaces (layers_seen (take l.layer-index l.layer-items));
  count : length l.list.items ≡ l.layer-index;
}
