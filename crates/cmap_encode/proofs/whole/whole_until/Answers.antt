use Rattle.std.proofs.Common.{◌≡◌, subst, inl, inr, arith}
use Rattle.std.proofs.lemmas.Bool.{cases_lt}
use Rattle.cmap_values.specs.CodeLengths.{length_of}
use Rattle.cmap_encode.specs.WholeSeen.{IsWholeNumber}
use Rattle.cmap_encode.proofs.whole.whole_until.Goals as goal

pub loop-after-init : goal.loop-after-init
loop-after-init c = record {
  within = omega arith;
  fits = c.requires.fits;
  whole = λ number from to. let same : c.args.code.number ≡ number = omega arith in subst (IsWholeNumber c.args.encoding.now (length_of c.args.code.len)) same c.requires.whole;
}

pub loop-after-preserved : goal.loop-after-preserved
loop-after-preserved c = record {
  within = (let le = c.loop-after.invariant.within in omega (arith, c.max-last.ensures));
  fits = (let fits = c.loop-after.invariant.fits in let also = c.whole_with_prefix.ensures.fits in omega (arith, c.max-last.ensures));
  whole = λ number from to.
      elim (cases_lt c.loop-after.last number) [
        | inl past ↦ c.whole_with_prefix.ensures.whole number from (omega (arith, c.max-last.ensures))
        | inr within ↦ c.loop-after.invariant.whole number from within
      ];
}
