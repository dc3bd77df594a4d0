use Rattle.std.proofs.Common.{map}
use Rattle.cmap_runs.proofs.BinaryDigits.{HasDigits-digits}
use Rattle.cmap_runs.proofs.MaximalRuns.{AreRuns-runs_of, runs_of-unique}
use Rattle.cmap_runs.proofs.runs.table.Table.run_count.Goals as goal

pub returns-clause-runs : goal.returns-clause-runs
returns-clause-runs g c = let spans = map g.T.HasRange.span c.args.self.now in (AreRuns-runs_of spans, runs_of-unique spans)

pub returns-clause-digits : goal.returns-clause-digits
returns-clause-digits g c = HasDigits-digits c.run_count.result
