use Rattle.std.proofs.Common.{rules, ◌+◌, ◌-◌, ◌/◌, sym, ap, ◌∙◌, arith}
use Rattle.std.proofs.lemmas.Option.{get_or_from_slice_get}
use Rattle.cmap_runs.specs.Ranges.{Run}
use Rattle.cmap_runs.proofs.BinaryDigits.{looks_half}
use Rattle.cmap_runs.proofs.RunsInOrder.{after_earlier}
use Rattle.cmap_runs.proofs.StretchesEnd.{ends_later}
use Rattle.cmap_runs.proofs.runs.stretch.ended_before.Goals as goal

pub loop-low-preserved-then-run-code : goal.loop-low-preserved-then-run-code
loop-low-preserved-then-run-code g c =
    let low = c.loop-low.low in let high = c.loop-low.high in let old = c.loop-low.invariant in let runs = c.args.held.now.runs in let middle = low + (high - low) / 2 in
    let half = looks_half low high _ _ c.loop-low-test.true old.bound in
    record {
      within = old.within;
      order = omega arith;
      before = λ k d le lt.
          after_earlier runs c.args.code middle k d c.requires (omega arith) (omega (arith, old.within))
          (omega (arith, c.if-run-code.true, ap (λ (run : Run). run.high) (c.run-in-loop-low.view_is ∙ sym (get_or_from_slice_get runs middle _ d c.run.ensures.run))));
      after = old.after;
      bound = omega (arith, c.run.ensures.runs, half.1);
      grows = omega (arith, c.run.ensures.runs, old.grows);
      declarations = search rules;
    }

pub loop-low-preserved : goal.loop-low-preserved
loop-low-preserved g c =
    let low = c.loop-low.low in let high = c.loop-low.high in let old = c.loop-low.invariant in let runs = c.args.held.now.runs in let middle = low + (high - low) / 2 in
    let half = looks_half low high _ _ c.loop-low-test.true old.bound in
    record {
      within = omega (arith, old.within);
      order = omega arith;
      before = old.before;
      after = λ k d le lt.
          ends_later runs c.args.code middle k d c.requires le lt
          (omega (arith, c.if-run-code.false, ap (λ (run : Run). run.high) (c.run-in-loop-low.view_is ∙ sym (get_or_from_slice_get runs middle _ d c.run.ensures.run))));
      bound = omega (arith, c.run.ensures.runs, half.0);
      grows = omega (arith, c.run.ensures.runs, old.grows);
      declarations = search rules;
    }
