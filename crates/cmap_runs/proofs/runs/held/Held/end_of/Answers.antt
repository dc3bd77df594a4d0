use Rattle.std.proofs.Common.{◌≡◌, ◌-◌, get_or, sym, ap, ◌∙◌, inl, inr, arith}
use Rattle.std.proofs.lemmas.Bool.{cases_lt}
use Rattle.std.proofs.lemmas.Option.{get_or_from_slice_get}
use Rattle.cmap_runs.specs.Ranges.{Run}
use Rattle.cmap_runs.proofs.runs.held.Held.end_of.Goals as goal

pub returns-in_default-clause-after : goal.returns-in_default-clause-after
returns-in_default-clause-after g c = λ k d from within.
    let runs = c.args.self.now.runs in let last = c.args.count - 1 in
    let high = ap (λ (run : Run). run.high) (c.from.view_is ∙ sym (get_or_from_slice_get runs last _ d c.run_at.ensures)) in
    elim (cases_lt k last) [
      | inl earlier ↦ omega (arith, c.requires.order.apart k last d earlier (omega (arith, c.requires.within)), c.requires.order.filled last d (omega (arith, c.requires.within)), high, c.from-in_default.ensures)
      | inr same ↦ let is : k ≡ last = omega arith in omega (arith, ap (λ i. (get_or runs i d).high) is, high, c.from-in_default.ensures)
    ]
