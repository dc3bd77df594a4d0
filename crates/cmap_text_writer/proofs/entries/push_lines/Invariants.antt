use Rattle.std.proofs.Common.{length}
use Rattle.cmap_text_writer.specs.Lengths.{text_length}
use Rattle.cmap_text_writer.proofs.ArraysTold.{LinesTo}
use Rattle.cmap_text_writer.proofs.entries.push_lines.Given as goal

abbrev pub invariant-loop-left : goal.invariant-loop-left
invariant-loop-left l = LinesTo (text_length l.lengths) l.entries l.left l.count l.initial.out.items l.out.items

abbrev pub decreases-loop-left : goal.decreases-loop-left
decreases-loop-left l = length l.left
