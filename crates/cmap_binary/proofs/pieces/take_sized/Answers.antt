use Rattle.cmap_binary.proofs.Fronts.{bytes_found, then_finds, then_none}
use Rattle.cmap_binary.proofs.pieces.take_sized.Goals as goal

pub returns-in_err-size : goal.returns-in_err-size
returns-in_err-size c = rw c.from_residual.ensures (then_none _ _ c.in_err-size.ensures)

pub returns : goal.returns
returns c = then_finds _ c.in_ok-size.ensures _ _ (bytes_found _ _ _ _ _ c.split_off.ensures.cases c.split_off.ensures.variant)
