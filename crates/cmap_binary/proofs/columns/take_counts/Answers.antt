use Rattle.cmap_binary.proofs.Fronts.{then_none}
use Rattle.cmap_binary.proofs.columns.take_counts.Goals as goal

pub returns-in-None : goal.returns-in-None
returns-in-None c = rw c.in-Ranges.is (then_none _ _ c.in-None.ensures)
