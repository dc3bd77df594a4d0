use Rattle.std.proofs.Common.{◌≡◌, drop, map}
use Rattle.cmap_layers.specs.LayersSeen.{layers_seen}
use Rattle.cmap_layers.specs.Lookups.{cid_in}
use Rattle.cmap_unicode.specs.Cids.{without_texts}
use Rattle.cmap_unicode.proofs.cids.declared_cid.Given as goal

-- no layer so far has a CID for the code
abbrev pub invariant-loop-layer : goal.invariant-loop-layer
invariant-loop-layer l = cid_in (map without_texts l.map) l.code l.byte_len ≡ cid_in (map without_texts (layers_seen (drop l.layer-index l.layers))) l.code l.byte_len
