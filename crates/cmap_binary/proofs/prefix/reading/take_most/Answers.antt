use Rattle.cmap_binary.proofs.Fronts.{then_none, then_next}
use Rattle.cmap_binary.proofs.prefix.reading.take_most.Goals as goal

pub returns-in_err-filled : goal.returns-in_err-filled
returns-in_err-filled c = rw c.from_residual.ensures (then_none _ _ c.in_err-filled.ensures)

pub returns-in_err-most : goal.returns-in_err-most
returns-in_err-most c = rw c.from_residual-in_err-most.ensures (then_next _ c.in_ok-filled.ensures (then_none _ _ c.in_err-most.ensures))
