use Rattle.std.proofs.Common.{◌≡◌, ℕ, List, length, length-set, get_or, sym, ap, ◌∙◌, inl, inr, arith}
use Rattle.std.proofs.lemmas.Bool.{cases_lt}
use Rattle.cmap_codespaces.proofs.RowBits.{row_marked}
use Rattle.cmap_codespaces.proofs.group.mark_rows.Goals as goal
use Rattle.cmap_codespaces.proofs.group.mark_rows.Goals.{then-block-row-ne0, else-block-row-ne0}

pub loop-row-preserved : goal.loop-row-preserved
loop-row-preserved c =
    let old = c.loop-row.invariant in let at = c.loop-row.row in let block = c.args.block.now in
    elim c.if-block-row-ne0.branch [
      | then-block-row-ne0 w ↦ record {
        size = omega (arith, ap (λ (l : List ℕ). length l) w.rows-is, length-set {A = ℕ}, old.size);
        bits = λ row i within.
            let was = old.bits row i within in
            let step = row_marked c.loop-row.rows c.if-block-row-ne0.rows at c.args.bit (omega (arith, old.size)) c.requires.bit w.rows-is row i in (
              λ now. elim (step.0 now) [
                | inl before ↦ elim (was.0 before) [ inl first ↦ inl first | inr (its, below, some) ↦ inr (its, omega arith, some) ]
                | inr (its, here) ↦ inr (its, omega arith, λ none. w.if-block-row-ne0.true (ap (λ r. get_or block r 0) (sym here) ∙ none))
              ],
              λ either. step.1 (elim either [
                | inl first ↦ inl (was.1 (inl first))
                | inr (its, below, some) ↦ elim (cases_lt row at) [ inl before ↦ inl (was.1 (inr (its, before, some))) | inr last ↦ inr (its, omega arith) ]
              ]),
            );
      }
      | else-block-row-ne0 w ↦ rw w.rows-is (record {
        size = old.size;
        bits = λ row i within.
            let was = old.bits row i within in (
              λ now. elim (was.0 now) [ inl first ↦ inl first | inr (its, below, some) ↦ inr (its, omega arith, some) ],
              λ either. was.1 (elim either [
                | inl first ↦ inl first
                | inr (its, below, some) ↦ elim (cases_lt row at) [
                  | inl before ↦ inr (its, before, some)
                  | inr last ↦ let same : row ≡ at = omega arith in absurd (some (ap (λ r. get_or block r 0) same ∙ w.if-block-row-ne0.false))
                ]
              ]),
            );
      })
    ]
