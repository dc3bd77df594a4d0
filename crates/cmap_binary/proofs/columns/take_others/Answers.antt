use Rattle.cmap_binary.proofs.Fronts.{gives, then_none, then_only}
use Rattle.cmap_binary.proofs.columns.take_others.Goals as goal

pub returns-in-Some : goal.returns-in-Some
returns-in-Some c = rw c.new.ensures (then_only _ c.in-Some.ensures gives)

pub returns-in-None : goal.returns-in-None
returns-in-None c = then_none _ _ c.in-None.ensures
