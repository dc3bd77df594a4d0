use Rattle.cmap_binary.proofs.Fronts.{gives, then_none, then_only}
use Rattle.cmap_binary.proofs.columns.next_width.Goals as goal

pub returns-in_err-count-in-Some : goal.returns-in_err-count-in-Some
returns-in_err-count-in-Some c = rw (c.from_residual.ensures, c.in-Some.is) (then_none _ _ c.in_err-count-in-Some.ensures)

pub returns-in_ok-count-in-Some : goal.returns-in_ok-count-in-Some
returns-in_ok-count-in-Some c = rw (c.in-Some.is, c.from.ensures) (then_only _ c.in_ok-count-in-Some.ensures gives)
