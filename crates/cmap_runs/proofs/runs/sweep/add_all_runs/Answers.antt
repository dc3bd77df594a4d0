use Rattle.std.proofs.Common.{◌^◌, length, arith}
use Rattle.std.proofs.lemmas.Result.{IfOk-from_err, on_ok_weaker}
use Rattle.cmap_runs.specs.Ranges.{last_index}
use Rattle.cmap_runs.proofs.MaximalRuns.{runs_of-unique}
use Rattle.cmap_runs.proofs.OpenDecide.{decides_open}
use Rattle.cmap_runs.proofs.runs.sweep.add_all_runs.Goals as goal

pub returns-clause-runs : goal.returns-clause-runs
returns-clause-runs c =
    on_ok_weaker c.add_runs.result (λ added spans are.
    let old = c.in_ok-from.ensures.are spans are in
    runs_of-unique spans c.add_runs.new.runs
    (added (last_index spans) (decides_open (length c.args.ranges.now) (2 ^ 32) are old.0 (λ k d from_here within. absurd (omega arith))) old.1)) c.add_runs.ensures.runs

pub returns-clause-few : goal.returns-clause-few
returns-clause-few c = on_ok_weaker c.add_runs.result (λ added. omega (arith, added, c.in_ok-from.ensures.few)) c.add_runs.ensures.few

pub open_ranges-requires : goal.open_ranges-requires
open_ranges-requires c = record { runs = c.requires.none; ends = c.new-ends.ensures; order = c.requires.order }

pub add_runs-requires : goal.add_runs-requires
add_runs-requires c = record { order = c.in_ok-from.ensures.limit; codes = omega arith }

pub returns-in_err-from : goal.returns-in_err-from
returns-in_err-from c = record { runs = IfOk-from_err _ _ c.from_residual.ensures.0; few = IfOk-from_err _ _ c.from_residual.ensures.0 }
