use Rattle.std.proofs.Common.{arith, ap, ◌++◌, ◌∙◌}
use Rattle.std.proofs.lemmas.List.{get_or_default}
use Rattle.std.proofs.lemmas.Result.{IfOk-from_err}
use Rattle.cmap_binary_writer.specs.Written.{bytes_of}
use Rattle.cmap_binary_writer.proofs.RowsAdded.{rows_done, rows_more}
use Rattle.cmap_binary_writer.proofs.bytes.push_u16s.Goals as goal

pub loop-number-preserved : goal.loop-number-preserved
loop-number-preserved c = rows_more (λ n. bytes_of 2 n) c.args.numbers.now c.loop-number.number-index c.args.out.now.items c.loop-number.out.items 0 _ c.loop-number-test.true c.loop-number.invariant (c.in_ok-push_number.ensures ∙ ap (λ n. c.loop-number.out.items ++ bytes_of 2 n) c.from.ensures)

pub returns-clause-written : goal.returns-clause-written
returns-clause-written c = rows_done (λ n. bytes_of 2 n) c.args.numbers.now c.loop-number.number-index c.args.out.now.items c.loop-number.out.items c.loop-number-test.false c.loop-number.invariant

pub returns-clause-small : goal.returns-clause-small
returns-clause-small c k d inside = omega (arith, get_or_default c.args.numbers.now k d 0 inside, c.type_inv.numbers k)

pub returns-in_err-push_number-clause-small : goal.returns-in_err-push_number-clause-small
returns-in_err-push_number-clause-small c k d inside = omega (arith, get_or_default c.args.numbers.now k d 0 inside, c.type_inv.numbers k)

pub returns-in_err-push_number-clause-written : goal.returns-in_err-push_number-clause-written
returns-in_err-push_number-clause-written c = IfOk-from_err _ _ c.from_residual.ensures.0
