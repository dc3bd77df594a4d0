use Rattle.std.proofs.Common.{length}
use Rattle.cmap_c.proofs.StringsCut.{IsCutting}
use Rattle.cmap_c.proofs.decode.decode.Given as goal

abbrev pub decreases-loop-count : goal.decreases-loop-count
decreases-loop-count l = length l.left

abbrev pub invariant-loop-count : goal.invariant-loop-count
invariant-loop-count l = IsCutting l.layers l.text l.left l.fn.codes l.codes l.count
