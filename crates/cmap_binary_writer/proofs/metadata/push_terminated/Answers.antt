use Rattle.std.proofs.Common.{◌∙◌, sym}
use Rattle.cmap_binary_writer.proofs.MetadataHeld.{has_zero, no_zero}
use Rattle.cmap_binary_writer.proofs.ObstaclesMet.{memory_passed_on}
use Rattle.cmap_binary_writer.proofs.RowsAdded.{added_two}
use Rattle.cmap_binary_writer.proofs.metadata.push_terminated.Goals as goal

pub returns : goal.returns
returns c = ((no_zero c.args.text.now (sym c.contains.ensures.value ∙ c.if-contains.false), added_two c.args.out.now.items c.extend_from_slice.new.self.items c.push.new.self.items c.args.text.now _ c.in_ok-extend_from_slice.ensures.items c.in_ok-push.ensures.items), tt)

pub returns-then-contains : goal.returns-then-contains
returns-then-contains c = (tt, has_zero c.args.text.now (sym c.contains.ensures.value ∙ c.if-contains.true))

pub returns-in_err-extend_from_slice : goal.returns-in_err-extend_from_slice
returns-in_err-extend_from_slice c = memory_passed_on _ _ _ c.from_residual.ensures.1

pub returns-in_err-push : goal.returns-in_err-push
returns-in_err-push c = memory_passed_on _ _ _ c.from_residual-in_err-push.ensures.1
