use Rattle.std.proofs.Common.{map}
use Rattle.cmap_runs.proofs.FoundIndex.{runs_in_order}
use Rattle.cmap_runs.proofs.runs.stretch.Stretches.of.Goals as goal

pub ended_before-ended-requires : goal.ended_before-ended-requires
ended_before-ended-requires g c = runs_in_order (map g.T.HasRange.span c.args.held.now.declarations) c.requires
