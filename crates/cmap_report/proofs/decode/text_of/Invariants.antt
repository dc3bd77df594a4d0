use Rattle.std.proofs.Common.{length}
use Rattle.cmap_report.proofs.decode.text_of.Given as goal

abbrev pub decreases-loop-joined : goal.decreases-loop-joined
decreases-loop-joined l = length l.left
