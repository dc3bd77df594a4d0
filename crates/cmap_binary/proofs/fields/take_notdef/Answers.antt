use Rattle.cmap_binary.proofs.Fronts.{gives, then_none, then_next, then_only}
use Rattle.cmap_binary.proofs.fields.take_notdef.Goals as goal

pub returns-in_err-start : goal.returns-in_err-start
returns-in_err-start c = rw c.from_residual.ensures (then_none _ _ c.in_err-start.ensures)

pub returns-in_err-end : goal.returns-in_err-end
returns-in_err-end c = rw c.from_residual-in_err-end.ensures (then_next _ c.in_ok-start.ensures (then_none _ _ c.in_err-end.ensures))

pub returns-in_err-cid : goal.returns-in_err-cid
returns-in_err-cid c = rw c.from_residual-in_err-cid.ensures (then_next _ c.in_ok-start.ensures (then_next _ c.in_ok-end.ensures (then_none _ _ c.in_err-cid.ensures)))

pub returns : goal.returns
returns c = rw c.from.ensures (then_only _ c.in_ok-start.ensures (then_only _ c.in_ok-end.ensures (then_only _ c.in_ok-cid.ensures gives)))
