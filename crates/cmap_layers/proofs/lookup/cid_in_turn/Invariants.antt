use Rattle.std.proofs.Common.{drop}
use Rattle.cmap_layers.specs.LayersSeen.{layers_seen}
use Rattle.cmap_layers.proofs.LayersSearched.{IsSearched}
use Rattle.cmap_layers.proofs.lookup.cid_in_turn.Given as goal

abbrev pub invariant-loop-layer : goal.invariant-loop-layer
invariant-loop-layer l = IsSearched (layers_seen l.layers) (layers_seen (drop l.layer-index l.layers)) l.code l.byte_len l.initial.looks l.looks
