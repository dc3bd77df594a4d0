use Rattle.std.proofs.Common.{◌≡◌, [], take}
use Rattle.std.specs.Prelude.{All}
use Rattle.cmap_layers.specs.LayersSeen.{layers_seen}
use Rattle.cmap_edit.proofs.flatten.texts.declare_texts.Given as goal

-- no layer so far declares texts
abbrev pub invariant-loop-layer : goal.invariant-loop-layer
invariant-loop-layer l = All (λ layer. layer.lists.bfs ≡ []) (layers_seen (take l.layer-index l.layers))
