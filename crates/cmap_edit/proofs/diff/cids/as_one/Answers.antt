use Rattle.std.proofs.Common.{refl, inl, inr, arith}
use Rattle.std.proofs.lemmas.Bool.{cases_lt}
use Rattle.cmap_edit.proofs.diff.cids.as_one.Goals as goal

pub returns : goal.returns
returns c = λ left right is is_too. (
  omega arith,
  refl,
  refl,
  record {
    left_cids = c.in_ok-whole.ensures left is.left_cids is_too.left_cids;
    right_cids = c.in_ok-whole-2.ensures right is.right_cids is_too.right_cids;
    differs = λ code within.
        elim (cases_lt code c.args.next.range.start) [
          | inl before ↦ is.differs code (within.0, omega arith)
          | inr after ↦ is_too.differs code (after, within.1)
        ];
  },
)
