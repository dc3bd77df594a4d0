use Rattle.std.proofs.Common.{◌-◌, ◌≤◌, length}
use Rattle.cmap_binary_writer.specs.EncodersSeen.{shape_seen}
use Rattle.cmap_binary_writer.proofs.SegmentsMade.{Follow}
use Rattle.cmap_binary_writer.proofs.cids.segment_len.Given as goal

abbrev pub invariant-loop-count : goal.invariant-loop-count
invariant-loop-count l = record {
  some : 1 ≤ l.count;
  within : l.count ≤ length l.entries;
  few : l.count ≤ 65535;
  follow : Follow (shape_seen l.shape) l.entries l.count;
}

abbrev pub decreases-loop-count : goal.decreases-loop-count
decreases-loop-count l = length l.entries - l.count
