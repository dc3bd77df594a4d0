use Rattle.std.proofs.Common.{arith}
use Rattle.cmap_edit.proofs.TextsGrow.{agreed}
use Rattle.cmap_edit.proofs.diff.texts.text_differences.Goals as goal
use Rattle.cmap_edit.proofs.diff.texts.text_differences.Goals.{then-part+in_ok-add, else-part}

pub loop-next-preserved : goal.loop-next-preserved
loop-next-preserved c =
    let left = c.args.left.now in let right = c.args.right.now in let next = c.loop-next.next in let part = c.in_ok-part in
    elim c.if-part.branch [
      | then-part+in_ok-add w ↦ record {
        within = omega (arith, part.ensures.within.1);
        are = rw (w.differences-is, c.from-next.ensures)
            (w.in_ok-add.ensures left right c.loop-next.invariant.are
            (record {
              left_decides = λ code within. part.ensures.left code within.0 within.1;
              right_decides = λ code within. part.ensures.right code within.0 within.1;
              differs = λ code within. rw w.if-part.true at (part.ensures.answers code within.0 within.1);
            }));
      }
      | else-part w ↦ record {
        within = omega (arith, part.ensures.within.1);
        are = rw (w.differences-is, c.from-next.ensures)
            (agreed left right next part.part.last c.loop-next.differences.items c.loop-next.invariant.are part.ensures.within.0
            (λ code from to. rw w.if-part.false at (part.ensures.answers code from to)));
      }
    ]
