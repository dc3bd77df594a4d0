use Rattle.std.proofs.Common.{◌-◌, List, length, ap, ◌∙◌}
use Rattle.std.specs.Prelude.{slice_get}
use Rattle.std.proofs.lemmas.Bool.{false≢true}
use Rattle.cmap_runs.specs.Ranges.{Run, goes_on}
use Rattle.cmap_runs.proofs.runs.held.Runs.is_continued_by.Goals as goal

pub returns-in-None : goal.returns-in-None
returns-in-None c =
    let none = c.in-None.ensures.value ∙ ap (λ (runs : List Run). slice_get runs (length runs - 1)) (c.deref.ensures.value ∙ c.self.view_is) in
    record { answer = λ high. ap (λ last. goes_on last (record { low = c.args.low; high = high; index = c.args.index })) none; some = λ e. absurd (false≢true e) }
