use Rattle.std.proofs.Common.{◌≡◌, ℕ, ◌+◌, ◌<◌, ◌≤◌, ◌^◌, drop, take}
use Rattle.std.specs.Prelude.{All}
use Rattle.cmap_layers.specs.CodeStretches.{HasNoText, HoldsBelow, TextsEnd}
use Rattle.cmap_layers.specs.LayersDecide.{deciding_bf}
use Rattle.cmap_layers.specs.LayersSeen.{layers_seen}
use Rattle.cmap_layers.proofs.layers.Layers.text_stretch.Given as goal

-- no layer so far has a declaration for any of the codes
abbrev pub invariant-loop-layer : goal.invariant-loop-layer
invariant-loop-layer l = record {
  within : l.first ≤ l.last;
  undecided : All (HasNoText l.first) (layers_seen (take l.layer-index l.layers));
  longest : l.last + 1 < 2 ^ 32 → HoldsBelow (HasNoText l.first) (TextsEnd l.first l.last) (layers_seen l.layers);
  passed : (code : ℕ) → l.first ≤ code → code ≤ l.last → deciding_bf (layers_seen l.layers) code ≡ deciding_bf (layers_seen (drop l.layer-index l.layers)) code;
}
