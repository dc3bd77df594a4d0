use Rattle.cmap_edit.proofs.Patterns.{differ_back, differ_both}
use Rattle.cmap_edit.proofs.diff.compared.compared.Goals as goal

pub returns-in-Same-CountOn-clause-answers : goal.returns-in-Same-CountOn-clause-answers
returns-in-Same-CountOn-clause-answers c = λ k le.
    rw (c.in-Same-CountOn.is-0, c.in-Same-CountOn.is-1) (differ_both _ _ _ (c.until_met.ensures.answers k le))

pub returns-in-CountOn-Same-clause-answers : goal.returns-in-CountOn-Same-clause-answers
returns-in-CountOn-Same-clause-answers c = λ k le.
    rw (c.in-CountOn-Same.is-0, c.in-CountOn-Same.is-1) (differ_back _ _ _ (differ_both _ _ _ (c.until_met-in-CountOn-Same.ensures.answers k le)))
