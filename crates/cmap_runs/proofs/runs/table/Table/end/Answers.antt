use Rattle.std.proofs.Common.{map, sym}
use Rattle.cmap_runs.proofs.FoundIndex.{no_index, none_last, none_past}
use Rattle.cmap_runs.proofs.runs.table.Table.end.Goals as goal

pub returns : goal.returns
returns g c = λ code fits past.
    let span = g.T.HasRange.span in let held = c.self.inside.held in
    let none = none_past held.runs code _ c.self.invariant.1.end past in
    sym (none_last span held.declarations c.args.self.now code (no_index (map span held.declarations) code c.self.invariant.0 fits none) c.self.view_is)
