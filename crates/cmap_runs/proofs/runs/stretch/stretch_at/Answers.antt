use Rattle.std.proofs.Common.{◌≡◌, ◌-◌, map, refl, ap, sym, ◌∙◌, arith}
use Rattle.std.specs.Prelude.{Some, slice_get}
use Rattle.cmap_runs.specs.Ranges.{Run}
use Rattle.cmap_runs.proofs.FoundIndex.{found_contains, found_last, found_within, runs_in_order}
use Rattle.cmap_runs.proofs.StretchesEnd.{at_most_its_high, before_run, left_after_run, left_at_end, left_before_run, longest_before_run, longest_in_run, no_runs_left, run_fits, run_index}
use Rattle.cmap_runs.proofs.runs.stretch.stretch_at.Goals as goal

pub returns-then-ended-run_count : goal.returns-then-ended-run_count
returns-then-ended-run_count g c =
    let runs = c.args.held.now.runs in let left = c.requires.ended in let code = c.args.code in
    record {
      same = λ other le within.
          no_runs_left g.T.HasRange.span c.args.held.now.declarations runs code c.args.ended.now other c.requires.runs left (omega arith) le (omega arith);
      contains = tt;
      longest = λ small same. absurd (omega arith);
      within = (omega (arith, c.ranges.code.fits), omega arith);
      ended = left_at_end runs code c.args.ended.now left (omega arith);
      looks = (omega arith, omega arith);
      grows = (omega arith, omega arith);
      looked = tt;
    }

pub returns-then-code-run : goal.returns-then-code-run
returns-then-code-run g c =
    let list = c.args.held.now.declarations in let span = g.T.HasRange.span in let runs = c.args.held.now.runs in let ended = c.args.ended.now in
    let run : Run = record { low = c.run.inside.low; high = c.run.inside.high; index = c.run.inside.index } in
    let at : slice_get runs ended ≡ Some run = c.run-run.ensures.run ∙ ap Some (sym c.run.view_is) in
    let fits = run_fits (map span list) runs ended run c.requires.runs at in let lt = c.if-code-run.true in
    record {
      same = λ code le within. before_run span list runs c.args.code ended code run c.requires.runs c.requires.ended at le (omega arith) (omega (arith, fits));
      contains = tt;
      longest = longest_before_run (map span list) runs c.args.code ended (run.low - 1) run c.requires.runs c.requires.ended at lt c.ranges.code.fits (omega arith);
      within = (omega (arith, lt), omega (arith, fits));
      ended = left_before_run runs c.args.code ended run (runs_in_order (map span list) c.requires.runs) c.requires.ended at lt (omega (arith, fits));
      looks = (omega (arith, c.run-run.ensures.runs), omega (arith, c.run-run.ensures.declarations));
      grows = (omega (arith, c.run-run.ensures.runs), omega (arith, c.run-run.ensures.declarations));
      looked = tt;
    }

pub declaration-requires : goal.declaration-requires
declaration-requires g c =
    let list = c.args.held.now.declarations in let span = g.T.HasRange.span in let runs = c.args.held.now.runs in let ended = c.args.ended.now in
    let run : Run = record { low = c.run.inside.low; high = c.run.inside.high; index = c.run.inside.index } in
    let at : slice_get runs ended ≡ Some run = c.run-run.ensures.run ∙ ap Some (sym c.run.view_is) in
    let fits = run_fits (map span list) runs ended run c.requires.runs at in
    found_within span list run.high run.index (run_index (map span list) runs ended run.high run c.requires.runs at fits.0 (omega arith))

pub returns : goal.returns
returns g c =
    let list = c.args.held.now.declarations in let span = g.T.HasRange.span in let runs = c.args.held.now.runs in let ended = c.args.ended.now in
    let run : Run = record { low = c.run.inside.low; high = c.run.inside.high; index = c.run.inside.index } in
    let at : slice_get runs ended ≡ Some run = c.run-run.ensures.run ∙ ap Some (sym c.run.view_is) in
    let here = at_most_its_high runs c.args.code ended run c.requires.ended at in let fits = run_fits (map span list) runs ended run c.requires.runs at in
    let decides = run_index (map span list) runs ended in
    record {
      same = λ code le within.
          sym (found_last span list list code run.index c.declaration.result.now (decides code run c.requires.runs at (omega (arith, c.if-code-run.false)) within) c.declaration.ensures.declaration refl);
      contains = found_contains span list c.args.code run.index c.declaration.result.now (decides c.args.code run c.requires.runs at c.if-code-run.false here) c.declaration.ensures.declaration;
      longest = longest_in_run (map span list) runs c.args.code ended run c.requires.runs at c.if-code-run.false here;
      within = (here, fits.1);
      ended = left_after_run runs c.args.code ended run (runs_in_order (map span list) c.requires.runs) c.requires.ended at here (omega (arith, fits));
      looks = (omega (arith, c.run-run.ensures.runs, c.declaration.ensures.runs), omega (arith, c.run-run.ensures.declarations, c.declaration.ensures.declarations));
      grows = (omega (arith, c.run-run.ensures.runs, c.declaration.ensures.runs), omega (arith, c.run-run.ensures.declarations, c.declaration.ensures.declarations));
      looked = (omega (arith, c.run-run.ensures.runs, c.declaration.ensures.runs), omega (arith, c.run-run.ensures.declarations, c.declaration.ensures.declarations));
    }
