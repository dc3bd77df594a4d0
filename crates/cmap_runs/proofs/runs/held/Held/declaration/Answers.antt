use Rattle.std.proofs.Common.{refl}
use Rattle.std.proofs.lemmas.Option.{slice_get_read}
use Rattle.cmap_runs.proofs.runs.held.Held.declaration.Goals as goal

pub returns-clause-declaration : goal.returns-clause-declaration
returns-clause-declaration g c = rw (← c.self.view_is) (slice_get_read _ _ _ _ refl (rw (← c.self.view_is) at c.requires) c.index.ensures)
