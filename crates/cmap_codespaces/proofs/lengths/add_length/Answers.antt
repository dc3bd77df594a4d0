use Rattle.std.proofs.Common.{◌≡◌, ◌+◌, get_or, refl, ◌∙◌, inl, inr, arith}
use Rattle.std.specs.Int.{bit_at}
use Rattle.cmap_values.specs.DeclarationsSeen.{codespace_seen}
use Rattle.cmap_codespaces.proofs.FrontRows.{marked_all, marked_first, marked_more}
use Rattle.cmap_codespaces.proofs.lengths.add_length.Goals as goal

pub loop-byte-init : goal.loop-byte-init
loop-byte-init c =
    let first = c.values_at-first.result in let second = c.values_at-second.result in record {
      size = c.set_lengths-2.auto.rows ∙ c.set_lengths.auto.rows ∙ c.requires;
      from = omega arith;
      upto = inr refl;
      bits = λ row i within.
          marked_first c.args.rows.now c.set_lengths.new.rows c.set_lengths-2.new.rows c.count-len.result first.low first.high second.low second.high row i
          (c.set_lengths.ensures row i (omega (arith, c.requires))) (c.set_lengths-2.ensures row i (omega (arith, c.requires, c.set_lengths.auto.rows)));
    }

pub loop-byte-preserved : goal.loop-byte-preserved
loop-byte-preserved c =
    let first = c.values_at-first.result in let second = c.values_at-second.result in let old = c.loop-byte.invariant in record {
      size = c.set_lengths-in-loop-byte.auto.rows ∙ old.size;
      from = omega (arith, old.from);
      upto = inl (omega arith);
      bits = λ row i within.
          marked_more c.loop-byte.rows c.set_lengths-in-loop-byte.new.rows (bit_at (get_or c.args.rows.now row 0) i ≡ 1) c.count-len.result first.low (first.high + 1) second.low second.high c.loop-byte.byte row i
          c.values_at-second.ensures.low c.values_at-second.ensures.within old.from (old.bits row i within) (c.set_lengths-in-loop-byte.ensures row i (omega (arith, old.size)));
    }

pub returns : goal.returns
returns c = λ row i within.
    let first = c.values_at-first.result in let second = c.values_at-second.result in let old = c.loop-byte.invariant in
    let is = old.bits row i within in
    let same = marked_all (codespace_seen c.args.space.now) first.low first.high second.low second.high c.loop-byte.byte row within c.values_at-first.ensures.within old.upto (omega arith) c.values_at-first.ensures.values c.values_at-second.ensures.values in (
      λ set. elim (is.0 set) [ inl was ↦ inl was | inr (its, marked) ↦ inr (its ∙ c.count-len.ensures, same.0 marked) ],
      λ either. is.1 (elim either [ inl was ↦ inl was | inr (its, begins) ↦ inr (omega (arith, its, c.count-len.ensures), same.1 begins) ]),
    )
