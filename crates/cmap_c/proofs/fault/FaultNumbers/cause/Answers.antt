use Rattle.std.proofs.Common.{◌≡◌, ◌∙◌, None, ap, eq-eqb, eqb-true, sym, true, true≢false}
use Rattle.cmap_c.specs.Faults.{HasNumbers, possible_cause}
use Rattle.cmap_c.proofs.CausesNumbered.{no_cause, no_other, only_cause}
use Rattle.cmap_c.proofs.fault.FaultNumbers.cause.Goals.{then-self-cause, else-self-cause, then-self-reason, else-self-reason, then-self-segment, else-self-segment}
use Rattle.cmap_c.proofs.fault.FaultNumbers.cause.Goals as goal

pub returns-then-same : goal.returns-then-same
returns-then-same c =
    let numbers = c.args.self.now in
    let of = c.numbers_of-cause.result in
    let offset : (c.if-self-reason.value ≡ true) × (numbers.offset ≡ of.3) = elim c.if-self-segment.branch [
      | then-self-segment w ↦ (w.if-self-segment.true, eqb-true _ _ (sym w.same-is ∙ c.if-same.true))
      | else-self-segment w ↦ absurd (true≢false (sym c.if-same.true ∙ w.same-is ∙ w.if-self-segment.false))
    ] in
    let segment : (c.if-self-cause.value ≡ true) × (numbers.segment ≡ of.2) = elim c.if-self-reason.branch [
      | then-self-reason w ↦ (w.if-self-reason.true, eqb-true _ _ (sym w.value-is ∙ offset.0))
      | else-self-reason w ↦ absurd (true≢false (sym offset.0 ∙ w.value-is ∙ w.if-self-reason.false))
    ] in
    let reason : (numbers.cause ≡ of.0) × (numbers.reason ≡ of.1) = elim c.if-self-cause.branch [
      | then-self-cause w ↦ (w.if-self-cause.true, eqb-true _ _ (sym w.value-is ∙ segment.0))
      | else-self-cause w ↦ absurd (w.if-self-cause.false (eqb-true _ _ (sym w.value-is ∙ segment.0)))
    ] in
    let has : HasNumbers numbers c.in_ok-found.found = (λ i. (reason.0 i, reason.1 i, segment.1 i, offset.1 i)) ∙ c.numbers_of-cause.ensures in
    only_cause numbers c.in_ok-found.found (sym c.in_ok-found.ensures) has

pub returns-else-same : goal.returns-else-same
returns-else-same c = no_other c.args.self.now c.in_ok-found.found (sym c.in_ok-found.ensures) (λ has.
    let same = has ∙ sym c.numbers_of-cause.ensures in
    elim c.if-self-segment.branch [
      | then-self-segment w ↦ true≢false (sym (eq-eqb _ _ (ap (λ n. n.3) same)) ∙ sym w.same-is ∙ c.if-same.false)
      | else-self-segment w ↦ elim c.if-self-reason.branch [
        | then-self-reason v ↦ true≢false (sym (eq-eqb _ _ (ap (λ n. n.2) same)) ∙ sym v.value-is ∙ w.if-self-segment.false)
        | else-self-reason v ↦ elim c.if-self-cause.branch [
          | then-self-cause u ↦ true≢false (sym (eq-eqb _ _ (ap (λ n. n.1) same)) ∙ sym u.value-is ∙ v.if-self-reason.false)
          | else-self-cause u ↦ u.if-self-cause.false (ap (λ n. n.0) same)
        ]
      ]
    ])

pub returns-in_err-found : goal.returns-in_err-found
returns-in_err-found c =
    let is : possible_cause c.args.self.now ≡ None = sym c.in_err-found.ensures in
    rw c.from_residual.ensures (no_cause c.args.self.now is)
