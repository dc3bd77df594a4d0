use Rattle.std.proofs.Common.{length}
use Rattle.cmap_text_writer.proofs.runs.next_text_section.Given as goal

abbrev pub decreases-loop-walk : goal.decreases-loop-walk
decreases-loop-walk l = length l.left
