use Rattle.std.proofs.Common.{arith, refl}
use Rattle.cmap_text_writer.proofs.ArraysTold.{row_more}
use Rattle.cmap_text_writer.proofs.runs.count_row.Goals as goal

pub loop-i-preserved : goal.loop-i-preserved
loop-i-preserved c =
    let here = c.if-not-is_code.ensures in
    row_more c.args.start c.args.entries.now c.loop-i.i c.index-entries-i.result (omega arith) c.loop-i.invariant (here.start refl) (here.end refl)
