use Rattle.std.proofs.Common.{arith}
use Rattle.cmap_values.specs.CodeLengths.{length_of}
use Rattle.cmap_values.specs.DeclarationsSeen.{cid_entry_seen}
use Rattle.cmap_values.proofs.Outcomes.{passed_on}
use Rattle.cmap_binary_writer.proofs.ObstaclesMet.{by_end, by_start, memory_passed_on}
use Rattle.cmap_binary_writer.proofs.RowsAdded.{added_three}
use Rattle.cmap_binary_writer.proofs.notdefs.push_notdef.Goals as goal

pub returns : goal.returns
returns c =
    let start = c.in_ok-push_code.ensures.0 in
    let end = c.in_ok-push_code-2.ensures.0 in
    (((start.0, end.0, omega arith), added_three c.args.out.now.items c.push_code.new.out.items c.push_code-2.new.out.items c.push_number.new.out.items _ _ _ start.1 end.1 c.in_ok-push_number.ensures), tt)

pub returns-in_err-push_code : goal.returns-in_err-push_code
returns-in_err-push_code c = passed_on _ _ _ c.from_residual.ensures.1 c.in_err-push_code.ensures.1 (by_start (length_of c.args.len) (cid_entry_seen c.args.entry.now))

pub returns-in_err-push_code-2 : goal.returns-in_err-push_code-2
returns-in_err-push_code-2 c = passed_on _ _ _ c.from_residual-in_err-push_code-2.ensures.1 c.in_err-push_code-2.ensures.1 (by_end (length_of c.args.len) (cid_entry_seen c.args.entry.now))

pub returns-in_err-push_number : goal.returns-in_err-push_number
returns-in_err-push_number c = memory_passed_on _ _ _ c.from_residual-in_err-push_number.ensures.1
