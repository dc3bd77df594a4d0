use Rattle.std.proofs.Common.{ℕ, length-set, inl, inr, arith}
use Rattle.std.proofs.lemmas.Bool.{cases_lt}
use Rattle.cmap_codespaces.proofs.RowBits.{short_row_set}
use Rattle.cmap_codespaces.proofs.lengths.set_lengths.Goals as goal

pub loop-row-preserved : goal.loop-row-preserved
loop-row-preserved c =
    let old = c.loop-row.invariant in let at = c.loop-row.row in record {
      size = omega (arith, length-set {A = ℕ}, old.size);
      from = omega (arith, old.from);
      upto = inl (omega arith);
      bits = λ row i within.
          let step = short_row_set c.loop-row.rows at c.args.len row i (omega (arith, old.size)) c.requires.len in
          let was = old.bits row i (omega (arith, length-set {A = ℕ})) in (
            λ now. elim (step.0 now) [
              | inl before ↦ elim (was.0 before) [ inl first ↦ inl first | inr new ↦ let high = new.2 in inr (new.0, new.1, omega arith) ]
              | inr new ↦ let here = new.1 in inr (new.0, omega (arith, old.from), omega arith)
            ],
            λ either. step.1 (elim either [
              | inl first ↦ inl (was.1 (inl first))
              | inr new ↦ elim (cases_lt row at) [
                | inl below ↦ inl (was.1 (inr (new.0, new.1, below)))
                | inr past ↦ let high = new.2 in inr (new.0, omega arith)
              ]
            ]),
          );
    }

pub returns : goal.returns
returns c = λ row i within.
    let old = c.loop-row.invariant in
    let was = old.bits row i (omega (arith, old.size)) in (
      λ now. elim (was.0 now) [
        | inl first ↦ inl first
        | inr new ↦
            let below = new.2 in
            inr (new.0, new.1, elim old.upto [ inl upto ↦ omega arith | inr none ↦ absurd (omega arith) ])
      ],
      λ either. was.1 (elim either [ inl first ↦ inl first | inr new ↦ let high = new.2 in inr (new.0, new.1, omega arith) ]),
    )
