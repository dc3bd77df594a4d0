use Rattle.std.proofs.Common.{◌≡◌, ◌-◌, ◌/◌, ◌^◌, subst, inl, inr, arith}
use Rattle.std.proofs.lemmas.Bool.{cases_lt}
use Rattle.cmap_values.specs.CodeLengths.{length_of}
use Rattle.cmap_encode.specs.Outside.{IsInside}
use Rattle.cmap_encode.proofs.whole.prefix_may_be_inside.Goals as goal

pub loop-left-preserved : goal.loop-left-preserved
loop-left-preserved c = λ number left same some few.
    elim (cases_lt left c.loop-left.left) [
      | inl before ↦ c.loop-left.invariant number left same some before
      | inr last ↦
          let here : c.loop-left.left ≡ left = omega arith in
          subst (λ k. IsInside c.args.encoding.now (length_of c.args.code.len - k) (number / 256 ^ k) → ⊥) here (c.may_begin_without.ensures c.if-may_begin_without.false number same)
    ]

pub returns : goal.returns
returns c = λ _ number left same some few. c.loop-left.invariant number left same some (omega arith)
