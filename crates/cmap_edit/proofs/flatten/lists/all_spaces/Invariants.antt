use Rattle.std.proofs.Common.{◌≡◌, ◌++◌, drop, map}
use Rattle.cmap_values.specs.DeclarationsSeen.{codespace_seen}
use Rattle.cmap_layers.specs.LayersSeen.{layers_seen}
use Rattle.cmap_layers.specs.StringCodes.{ranges_of}
use Rattle.cmap_edit.proofs.flatten.lists.all_spaces.Given as goal

-- the ranges so far, and those of the layers that are left
abbrev pub invariant-loop-layer : goal.invariant-loop-layer
invariant-loop-layer l = map codespace_seen l.spaces.items ++ ranges_of (layers_seen (drop l.layer-index l.layers)) ≡ ranges_of (layers_seen l.layers)
