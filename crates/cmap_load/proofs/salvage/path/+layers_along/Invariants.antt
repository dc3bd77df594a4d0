use Rattle.std.proofs.Common.{length}
use Rattle.cmap_load.proofs.salvage.path.+layers_along.Given as goal

abbrev pub decreases-layers_along : goal.decreases-layers_along
decreases-layers_along l = length l.path.now
