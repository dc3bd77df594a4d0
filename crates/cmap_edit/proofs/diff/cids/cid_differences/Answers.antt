use Rattle.std.proofs.Common.{arith}
use Rattle.cmap_values.specs.CodeLengths.{length_of}
use Rattle.cmap_layers.specs.Lookups.{cid_of}
use Rattle.cmap_edit.proofs.CidsGrow.{agreed}
use Rattle.cmap_edit.proofs.diff.cids.cid_differences.Goals as goal
use Rattle.cmap_edit.proofs.diff.cids.cid_differences.Goals.{then-part+in_ok-add, else-part}

pub loop-next-preserved : goal.loop-next-preserved
loop-next-preserved c =
    let len = length_of c.args.len in let next = c.loop-next.next in let part = c.cid_part-part in
    elim c.if-part.branch [
      | then-part+in_ok-add w ↦ record {
        within = omega arith;
        are = rw (w.differences-is, c.from-next.ensures)
            (w.in_ok-add.ensures (λ code. cid_of c.args.left.now code len) (λ code. cid_of c.args.right.now code len) c.loop-next.invariant.are
            (record {
              left_cids = part.ensures.left;
              right_cids = part.ensures.right;
              differs = λ code within. rw w.if-part.true at (part.ensures.answers code within.0 within.1);
            }));
      }
      | else-part w ↦ record {
        within = omega arith;
        are = rw (w.differences-is, c.from-next.ensures)
            (agreed (λ code. cid_of c.args.left.now code len) (λ code. cid_of c.args.right.now code len) next part.result.last c.loop-next.differences.items c.loop-next.invariant.are part.ensures.within
            (λ code from to. rw w.if-part.false at (part.ensures.answers code from to)));
      }
    ]
