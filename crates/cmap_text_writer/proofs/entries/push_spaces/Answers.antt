use Rattle.std.proofs.Common.{arith}
use Rattle.cmap_values.specs.DeclarationsSeen.{codespace_seen}
use Rattle.cmap_text_writer.specs.Spelled.{space_spelled}
use Rattle.cmap_text_writer.proofs.Walked.{one_seen}
use Rattle.cmap_text_writer.proofs.entries.push_spaces.Goals as goal

pub loop-space-preserved : goal.loop-space-preserved
loop-space-preserved c = one_seen space_spelled codespace_seen c.args.spaces.now c.loop-space.space-index _ c.args.out.now.items c.loop-space.out.items c.push_space.new.out.items (omega arith) c.loop-space.invariant c.in_ok-push_space.ensures
