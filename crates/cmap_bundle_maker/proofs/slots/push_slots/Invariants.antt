use Rattle.std.proofs.Common.{take}
use Rattle.cmap_binary_writer.specs.EncodersSeen.{encoders_seen}
use Rattle.cmap_bundle_maker.proofs.BundlesWritten.{SlotsWrittenTo}
use Rattle.cmap_bundle_maker.proofs.slots.push_slots.Given as goal

abbrev pub invariant-loop-slot : goal.invariant-loop-slot
invariant-loop-slot l = SlotsWrittenTo (encoders_seen l.tables) (take l.slot-index l.slots) l.initial.out.items l.out.items
