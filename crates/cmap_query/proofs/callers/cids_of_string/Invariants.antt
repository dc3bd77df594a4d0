use Rattle.std.proofs.Common.{length}
use Rattle.cmap_query.proofs.callers.cids_of_string.Given as goal

abbrev pub decreases-loop-next : goal.decreases-loop-next
decreases-loop-next l = length l.left
