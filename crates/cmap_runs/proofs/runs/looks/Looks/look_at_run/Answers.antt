use Rattle.cmap_runs.proofs.runs.looks.Looks.look_at_run.Goals as goal

pub returns-clause-runs : goal.returns-clause-runs
returns-clause-runs c = c.count.ensures.runs
