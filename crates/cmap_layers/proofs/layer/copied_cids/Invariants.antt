use Rattle.std.proofs.Common.{◌≡◌, take}
use Rattle.cmap_layers.proofs.layer.copied_cids.Given as goal

abbrev pub invariant-loop-index : goal.invariant-loop-index
invariant-loop-index l = l.list.items ≡ take l.index l.table
