use Rattle.std.proofs.Common.{◌≡◌, drop}
use Rattle.cmap_layers.specs.LayersSeen.{layers_seen}
use Rattle.cmap_unicode.specs.Collections.{family_in}
use Rattle.cmap_unicode.proofs.collections.family_of.Given as goal

-- no layer so far has a collection
abbrev pub invariant-loop-layer : goal.invariant-loop-layer
invariant-loop-layer l = family_in l.encoding ≡ family_in (layers_seen (drop l.layer-index l.layer-items))
