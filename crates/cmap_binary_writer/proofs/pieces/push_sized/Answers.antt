use Rattle.std.proofs.Common.{ℕ, ◌<◌, ◌^◌, length, refl, ap, subst, arith}
use Rattle.std.proofs.lemmas.List.{get_or_default, length-append}
use Rattle.std.proofs.lemmas.Result.{IfOk-from_err}
use Rattle.cmap_binary_writer.proofs.BytesWritten.{length-bytes_of}
use Rattle.cmap_binary_writer.proofs.FrontsWritten.{sized_written}
use Rattle.cmap_binary_writer.proofs.ObstaclesMet.{memory_long}
use Rattle.cmap_binary_writer.proofs.pieces.push_sized.Goals as goal

pub returns-clause-written : goal.returns-clause-written
returns-clause-written c = sized_written c.args.out.now.items c.push_number.new.out.items c.extend_from_slice.new.self.items c.args.piece.now _ c.in_ok-push_number.ensures c.in_ok-extend_from_slice.ensures.items refl (omega arith) (λ k d within. subst (λ b. b < 2 ^ 8) (get_or_default c.args.piece.now k 0 d within) (omega (arith, c.type_inv.piece k)))

pub returns-clause-len : goal.returns-clause-len
returns-clause-len c = omega (arith, ap length c.in_ok-extend_from_slice.ensures.items, ap length c.in_ok-push_number.ensures, length-append {A = ℕ}, length-bytes_of 4 (length c.args.piece.now))

pub returns-in_err-push_number-clause-err : goal.returns-in_err-push_number-clause-err
returns-in_err-push_number-clause-err c = memory_long _ _ c.from_residual.ensures.1

pub returns-in_err-extend_from_slice-clause-err : goal.returns-in_err-extend_from_slice-clause-err
returns-in_err-extend_from_slice-clause-err c = memory_long _ _ c.from_residual-in_err-extend_from_slice.ensures.1

pub returns-in_err-push_number-clause-written : goal.returns-in_err-push_number-clause-written
returns-in_err-push_number-clause-written c = IfOk-from_err _ _ c.from_residual.ensures.0

pub returns-in_err-push_number-clause-len : goal.returns-in_err-push_number-clause-len
returns-in_err-push_number-clause-len c = IfOk-from_err _ _ c.from_residual.ensures.0

pub returns-in_err-extend_from_slice-clause-written : goal.returns-in_err-extend_from_slice-clause-written
returns-in_err-extend_from_slice-clause-written c = IfOk-from_err _ _ c.from_residual-in_err-extend_from_slice.ensures.0

pub returns-in_err-extend_from_slice-clause-len : goal.returns-in_err-extend_from_slice-clause-len
returns-in_err-extend_from_slice-clause-len c = IfOk-from_err _ _ c.from_residual-in_err-extend_from_slice.ensures.0
