use Rattle.std.proofs.Common.{sym}
use Rattle.std.proofs.lemmas.List.{append-nil}
use Rattle.std.proofs.lemmas.Result.{IfOk-from_err}
use Rattle.cmap_values.specs.DeclarationsSeen.{cid_entry_seen}
use Rattle.cmap_binary_writer.specs.Written.{bytes_of}
use Rattle.cmap_binary_writer.proofs.RowsAdded.{seen_done, seen_more}
use Rattle.cmap_binary_writer.proofs.cids.push_raw_cids.Goals as goal

pub loop-entry-init : goal.loop-entry-init
loop-entry-init c = sym (append-nil c.args.out.now.items)

pub loop-entry-preserved : goal.loop-entry-preserved
loop-entry-preserved c = seen_more (λ e. bytes_of 2 e.cid) cid_entry_seen c.args.entries.now c.loop-entry.entry-index c.args.out.now.items c.loop-entry.out.items _ _ c.loop-entry-test.true c.loop-entry.invariant c.in_ok-push_number.ensures

pub returns-in_err-push_number : goal.returns-in_err-push_number
returns-in_err-push_number c = IfOk-from_err _ _ c.from_residual.ensures.0

pub returns : goal.returns
returns c = seen_done (λ e. bytes_of 2 e.cid) cid_entry_seen c.args.entries.now c.loop-entry.entry-index c.args.out.now.items c.loop-entry.out.items c.loop-entry-test.false c.loop-entry.invariant
