use Rattle.std.proofs.Common.{rules, ◌≡◌, ◌+◌, ◌-◌, ◌/◌, ◌≤◌, length, sym, ap, ◌∙◌, refl, inl, inr, arith}
use Rattle.std.proofs.lemmas.Bool.{cases_lt}
use Rattle.std.proofs.lemmas.Option.{get_or_from_slice_get}
use Rattle.cmap_runs.specs.Ranges.{Run, digits}
use Rattle.cmap_runs.proofs.BinaryDigits.{digits_least, digits_room, looks_half}
use Rattle.cmap_runs.proofs.RunsInOrder.{before_later, after_earlier}
use Rattle.cmap_runs.proofs.runs.search.find_among_last.Goals as goal

pub loop-low-init : goal.loop-low-init
loop-low-init g c =
    let number = length c.args.held.now.runs in let count = c.run_count-high.result in
    let left : count - (count - c.args.blocks.now.left) ≡ c.args.blocks.now.left = omega (arith, c.requires.within) in
    let fewer : digits c.args.blocks.now.left ≤ digits number = digits_least c.args.blocks.now.left (digits number) (omega (arith, c.requires.within, digits_room number)) in
    record {
      within = omega arith;
      below = λ k d le lt. c.requires.before k d le (omega (arith, lt));
      above = λ k d le lt. absurd (omega arith);
      most = omega (arith, ap digits left, fewer);
      grows = omega arith;
      declarations = refl;
    }

pub loop-low-preserved-then-code-candidate : goal.loop-low-preserved-then-code-candidate
loop-low-preserved-then-code-candidate g c =
    let low = c.loop-low.low in let high = c.loop-low.high in let runs = c.args.held.now.runs in let old = c.loop-low.invariant in
    let middle = low + (high - low) / 2 in let looked = c.run-candidate.ensures in
    record {
      within = omega (arith, old.within);
      below = old.below;
      above = λ k d le lt.
          before_later runs c.args.code middle k d c.requires.order le lt
          (omega (arith, c.if-code-candidate.true, ap (λ (run : Run). run.low) (c.candidate.view_is ∙ sym (get_or_from_slice_get runs middle _ d looked.run))));
      most = omega (arith, looked.runs, (looks_half low high _ _ c.loop-low-test.true old.most).0);
      grows = omega (arith, looked.runs, old.grows);
      declarations = search rules;
    }

pub loop-low-preserved : goal.loop-low-preserved
loop-low-preserved g c =
    let low = c.loop-low.low in let high = c.loop-low.high in let runs = c.args.held.now.runs in let old = c.loop-low.invariant in
    let middle = low + (high - low) / 2 in let looked = c.run-candidate.ensures in
    record {
      within = old.within;
      below = λ k d le lt.
          after_earlier runs c.args.code middle k d c.requires.order (omega arith) (omega (arith, old.within))
          (omega (arith, c.if-candidate-code.true, ap (λ (run : Run). run.high) (c.candidate.view_is ∙ sym (get_or_from_slice_get runs middle _ d looked.run))));
      above = old.above;
      most = omega (arith, looked.runs, (looks_half low high _ _ c.loop-low-test.true old.most).1);
      grows = omega (arith, looked.runs, old.grows);
      declarations = search rules;
    }

pub returns-else-candidate-code : goal.returns-else-candidate-code
returns-else-candidate-code g c =
    let middle = c.loop-low.low + (c.loop-low.high - c.loop-low.low) / 2 in let old = c.loop-low.invariant in
    let run : Run = c.run-candidate.result in let looked = c.run-candidate.ensures in
    let low = ap (λ (run : Run). run.low) c.candidate.view_is in let high = ap (λ (run : Run). run.high) c.candidate.view_is in
    record {
      none = tt;
      found = (middle, run, omega (arith, old.within), get_or_from_slice_get c.args.held.now.runs middle run run looked.run, ((omega arith, omega arith), ap (λ (run : Run). run.index) (sym c.candidate.view_is)));
      bound = omega (arith, looked.runs, (looks_half c.loop-low.low c.loop-low.high _ _ c.loop-low-test.true old.most).0);
      grows = omega (arith, looked.runs, old.grows);
      looked = omega (arith, looked.runs, old.grows);
      declarations = looked.declarations ∙ old.declarations;
    }

pub returns : goal.returns
returns g c =
    let old = c.loop-low.invariant in
    record {
      none = λ k d lt holds.
          elim (cases_lt k c.loop-low.low) [
            | inl before ↦ omega (arith, old.below k d (omega arith) before, holds.1)
            | inr after ↦ omega (arith, old.above k d (omega (arith, after, c.loop-low-test.false)) lt, holds.0)
          ];
      found = tt;
      bound = omega (arith, old.most);
      grows = old.grows;
      looked = tt;
      declarations = old.declarations;
    }
