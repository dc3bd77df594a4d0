use Rattle.std.proofs.Common.{map, sym, ap, ◌∙◌}
use Rattle.std.specs.Prelude.{Some, slice_get}
use Rattle.cmap_runs.specs.Ranges.{runs_of}
use Rattle.cmap_runs.proofs.runs.table.Table.run.Goals as goal

pub returns-clause-run : goal.returns-clause-run
returns-clause-run g c =
    ap (λ list. slice_get (runs_of (map g.T.HasRange.span list)) c.args.i) (sym c.self.view_is)
    ∙ ap (λ runs. slice_get runs c.args.i) (sym c.self.invariant.0) ∙ c.run-run.ensures.run ∙ ap Some (sym c.run.view_is)
