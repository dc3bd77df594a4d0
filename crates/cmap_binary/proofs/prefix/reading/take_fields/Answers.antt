use Rattle.std.proofs.Common.{arith}
use Rattle.std.proofs.lemmas.Result.{IfOk-from_err}
use Rattle.cmap_binary.proofs.Fronts.{row_start, row_more, row_wrong, row_end}
use Rattle.cmap_binary.proofs.prefix.reading.take_fields.Goals as goal

pub loop-init : goal.loop-init
loop-init c = rw c.new-numbers.ensures.items (row_start _ _ _)

pub loop-preserved : goal.loop-preserved
loop-preserved c = rw c.in_ok-push.ensures.items (row_more _ _ _ _ _ _ _ _ c.loop.invariant (omega arith) c.in-Some.ensures)

pub returns-in_default : goal.returns-in_default
returns-in_default c = row_wrong _ _ _ _ _ _ c.loop.invariant (omega arith) c.in_default.ensures

pub returns : goal.returns
returns c = row_end _ _ _ _ _ _ c.loop.invariant (omega arith)

pub returns-in_err-push : goal.returns-in_err-push
returns-in_err-push c = IfOk-from_err _ _ c.from_residual.ensures.0
