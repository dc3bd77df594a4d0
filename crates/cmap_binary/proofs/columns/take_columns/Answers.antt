use Rattle.cmap_binary.proofs.Fronts.{then_finds, then_none}
use Rattle.cmap_binary.proofs.columns.take_columns.Goals as goal

pub returns-in-Some : goal.returns-in-Some
returns-in-Some c = then_finds _ c.in-Some.ensures _ _ c.take_others.ensures

pub returns-in-None : goal.returns-in-None
returns-in-None c = then_none _ _ c.in-None.ensures
