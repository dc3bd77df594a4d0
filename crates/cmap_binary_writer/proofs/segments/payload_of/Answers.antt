use Rattle.std.proofs.Common.{◌∙◌, ◌++◌, length, ap, arith}
use Rattle.std.proofs.lemmas.List.{length-append}
use Rattle.std.proofs.lemmas.Result.{IfOk-from_err}
use Rattle.cmap_values.proofs.Outcomes.{memory_on, refuses_on}
use Rattle.cmap_binary_writer.specs.EncodersSeen.{encoders_seen}
use Rattle.cmap_binary_writer.specs.Written.{bytes_of}
use Rattle.cmap_binary_writer.proofs.BytesWritten.{length-bytes_of}
use Rattle.cmap_binary_writer.proofs.NumbersWritten.{payload_is}
use Rattle.cmap_binary_writer.proofs.segments.payload_of.Goals as goal

pub returns-clause-written : goal.returns-clause-written
returns-clause-written c =
    let segment = c.args.segment.now in
    payload_is (encoders_seen c.args.tables.now) segment c.push_number.new.out.items c.push_columns.new.out.items c.extend_from_slice.new.self.items c.from.result (c.in_ok-push_number.ensures ∙ ap (λ bs. bs ++ bytes_of 2 c.from.result) c.new-payload.ensures.items) (omega arith) c.in_ok-push_columns.ensures.written (c.in_ok-extend_from_slice.ensures.items ∙ ap (λ bs. c.push_columns.new.out.items ++ bs) c.deref.ensures.value)

pub returns-in_err-push_columns-clause-err : goal.returns-in_err-push_columns-clause-err
returns-in_err-push_columns-clause-err c = refuses_on _ _ c.from_residual-in_err-push_columns.ensures.1 c.in_err-push_columns.ensures.err (λ o h. h)

pub returns-in_err-push_number-clause-err : goal.returns-in_err-push_number-clause-err
returns-in_err-push_number-clause-err c = memory_on _ _ c.from_residual.ensures.1

pub returns-in_err-extend_from_slice-clause-err : goal.returns-in_err-extend_from_slice-clause-err
returns-in_err-extend_from_slice-clause-err c = memory_on _ _ c.from_residual-in_err-extend_from_slice.ensures.1

pub returns-in_err-push_number-clause-written : goal.returns-in_err-push_number-clause-written
returns-in_err-push_number-clause-written c = IfOk-from_err _ _ c.from_residual.ensures.0

pub returns-in_err-push_columns-clause-written : goal.returns-in_err-push_columns-clause-written
returns-in_err-push_columns-clause-written c = IfOk-from_err _ _ c.from_residual-in_err-push_columns.ensures.0

pub returns-in_err-extend_from_slice-clause-written : goal.returns-in_err-extend_from_slice-clause-written
returns-in_err-extend_from_slice-clause-written c = IfOk-from_err _ _ c.from_residual-in_err-extend_from_slice.ensures.0

pub returns-in_err-push_number-clause-len : goal.returns-in_err-push_number-clause-len
returns-in_err-push_number-clause-len c = IfOk-from_err _ _ c.from_residual.ensures.0

pub returns-in_err-push_columns-clause-len : goal.returns-in_err-push_columns-clause-len
returns-in_err-push_columns-clause-len c = IfOk-from_err _ _ c.from_residual-in_err-push_columns.ensures.0

pub returns-in_err-extend_from_slice-clause-len : goal.returns-in_err-extend_from_slice-clause-len
returns-in_err-extend_from_slice-clause-len c = IfOk-from_err _ _ c.from_residual-in_err-extend_from_slice.ensures.0

pub returns-clause-len : goal.returns-clause-len
returns-clause-len c =
    omega (arith, ap length c.in_ok-extend_from_slice.ensures.items, length-append c.push_columns.new.out.items c.deref.result.now, ap length c.deref.ensures.value, c.in_ok-push_columns.ensures.len, ap length c.in_ok-push_number.ensures, length-append c.new-payload.result.items (bytes_of 2 c.from.result), length-bytes_of 2 c.from.result, ap length c.new-payload.ensures.items)
