use Rattle.std.proofs.Common.{◌-◌, length}
use Rattle.cmap_load.proofs.TableLayers.{Left}
use Rattle.cmap_load.proofs.table.Table.into_layers.Given as goal

abbrev pub invariant-down : goal.invariant-down
invariant-down l = record {
  left : Left l.fn.self l.contents.items l.layers.items l.at;
}

abbrev pub decreases-down : goal.decreases-down
decreases-down l = 17 - length l.layers.items
