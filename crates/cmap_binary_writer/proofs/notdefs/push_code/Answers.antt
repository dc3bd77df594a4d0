use Rattle.std.proofs.Common.{◌∙◌, ◌++◌, ap, arith}
use Rattle.cmap_binary_writer.specs.Written.{bytes_of}
use Rattle.cmap_binary_writer.proofs.ObstaclesMet.{memory_passed_on}
use Rattle.cmap_binary_writer.proofs.RowsWritten.{is_length}
use Rattle.cmap_binary_writer.proofs.notdefs.push_code.Goals as goal

pub returns : goal.returns
returns c = ((record { length = is_length c.args.len; small = omega (arith, c.largest_code.ensures) }, c.in_ok-push_number.ensures ∙ ap (λ n. c.args.out.now.items ++ bytes_of n c.args.code) c.count.ensures), tt)

pub returns-in_err-push_number : goal.returns-in_err-push_number
returns-in_err-push_number c = memory_passed_on _ _ _ c.from_residual.ensures.1
