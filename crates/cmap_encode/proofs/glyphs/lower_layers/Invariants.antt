use Rattle.std.proofs.Common.{◌≡◌, drop}
use Rattle.cmap_layers.specs.LayersSeen.{layers_seen}
use Rattle.cmap_encode.specs.Glyphs.{lower_from, lower_of}
use Rattle.cmap_encode.proofs.glyphs.lower_layers.Given as goal

-- the layers so far are vertical
abbrev pub invariant-loop-index : goal.invariant-loop-index
invariant-loop-index l = lower_of (layers_seen l.layers) ≡ lower_from l.declared (layers_seen l.layers) (layers_seen (drop l.index l.layers))
