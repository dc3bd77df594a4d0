use Rattle.std.proofs.Common.{refl, arith}
use Rattle.std.proofs.lemmas.Result.{IfOk-from_err}
use Rattle.cmap_binary_writer.proofs.FrontsWritten.{framed_written}
use Rattle.cmap_binary_writer.proofs.ObstaclesMet.{memory_long}
use Rattle.cmap_binary_writer.proofs.pieces.push_framed.Goals as goal
use Rattle.cmap_binary_writer.proofs.pieces.push_framed.Goals.{then-payload-via-then-payload, then-payload-via-else-payload+then-payload-front}

pub overflow_sub-front : goal.overflow_sub-front
overflow_sub-front c = omega arith

pub returns-then-payload-clause-err : goal.returns-then-payload-clause-err
returns-then-payload-clause-err c =
    elim c.then-payload.branch [
      | then-payload-via-then-payload w ↦ omega (arith, w.if-payload.true)
      | then-payload-via-else-payload+then-payload-front w ↦ omega (arith, w.if-payload-front.true)
    ]

pub returns-in_err-extend_from_slice-clause-err : goal.returns-in_err-extend_from_slice-clause-err
returns-in_err-extend_from_slice-clause-err c = memory_long _ _ c.from_residual.ensures.1

pub overflow_add-front : goal.overflow_add-front
overflow_add-front c = omega arith

pub overflow_cast-front : goal.overflow_cast-front
overflow_cast-front c = omega arith

pub returns-clause-written : goal.returns-clause-written
returns-clause-written c = framed_written c.args.out.now.items c.extend_from_slice.new.self.items c.push_number.new.out.items c.extend_from_slice-2.new.self.items c.args.front.now c.args.payload.now _ c.in_ok-extend_from_slice.ensures.items c.in_ok-push_number.ensures c.in_ok-extend_from_slice-2.ensures.items refl (omega arith)

pub returns-in_err-push_number-clause-err : goal.returns-in_err-push_number-clause-err
returns-in_err-push_number-clause-err c = memory_long _ _ c.from_residual-in_err-push_number.ensures.1

pub returns-in_err-extend_from_slice-2-clause-err : goal.returns-in_err-extend_from_slice-2-clause-err
returns-in_err-extend_from_slice-2-clause-err c = memory_long _ _ c.from_residual-in_err-extend_from_slice-2.ensures.1

pub returns-in_err-extend_from_slice-clause-written : goal.returns-in_err-extend_from_slice-clause-written
returns-in_err-extend_from_slice-clause-written c = IfOk-from_err _ _ c.from_residual.ensures.0

pub returns-in_err-push_number-clause-written : goal.returns-in_err-push_number-clause-written
returns-in_err-push_number-clause-written c = IfOk-from_err _ _ c.from_residual-in_err-push_number.ensures.0

pub returns-in_err-extend_from_slice-2-clause-written : goal.returns-in_err-extend_from_slice-2-clause-written
returns-in_err-extend_from_slice-2-clause-written c = IfOk-from_err _ _ c.from_residual-in_err-extend_from_slice-2.ensures.0
