use Rattle.std.proofs.Common.{arith}
use Rattle.cmap_binary_writer.specs.EncodersSeen.{encoders_seen}
use Rattle.cmap_values.proofs.Outcomes.{refuses_on}
use Rattle.cmap_bundle_maker.proofs.BundleObstacles.{slot_among}
use Rattle.cmap_bundle_maker.proofs.BundlesWritten.{slots_written_more}
use Rattle.cmap_bundle_maker.proofs.slots.push_slots.Goals as goal

pub loop-slot-preserved : goal.loop-slot-preserved
loop-slot-preserved c = slots_written_more (encoders_seen c.args.tables.now) c.args.slots.now c.loop-slot.slot-index c.slot-item.result c.args.out.now.items c.loop-slot.out.items c.push_slot.new.out.items (omega arith) c.slot-item.is c.loop-slot.invariant c.in_ok-push_slot.ensures.written

pub returns-in_err-push_slot-clause-err : goal.returns-in_err-push_slot-clause-err
returns-in_err-push_slot-clause-err c = refuses_on _ _ c.from_residual.ensures.1 c.in_err-push_slot.ensures.err (slot_among (encoders_seen c.args.tables.now) c.args.slots.now c.loop-slot.slot-index c.slot-item.result (omega arith) c.slot-item.is)
