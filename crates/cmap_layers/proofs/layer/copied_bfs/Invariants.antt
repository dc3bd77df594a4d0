use Rattle.std.proofs.Common.{◌≡◌, take, map}
use Rattle.cmap_values.specs.DeclarationsSeen.{bf_entry_seen}
use Rattle.cmap_layers.proofs.layer.copied_bfs.Given as goal

abbrev pub invariant-loop-index : goal.invariant-loop-index
invariant-loop-index l = map bf_entry_seen l.list.items ≡ take l.index (map bf_entry_seen l.table)
