use Rattle.std.proofs.Common.{take}
use Rattle.cmap_binary_writer.specs.EncodersSeen.{encoders_seen}
use Rattle.cmap_binary_writer.specs.Segments.{AreSegmentBytes}
use Rattle.cmap_binary_writer.specs.Written.{Appends}
use Rattle.cmap_binary_writer.proofs.SegmentsAdded.{WrittenWhere}
use Rattle.cmap_binary_writer.proofs.segments.push_segments.Given as goal

abbrev pub invariant-loop-segment : goal.invariant-loop-segment
invariant-loop-segment l = record {
  written : WrittenWhere (encoders_seen l.tables) (take l.segment-index l.segments) l.initial.out.items l.out.items;
  bytes : Appends l.initial.out.items l.out.items (AreSegmentBytes (encoders_seen l.tables) (take l.segment-index l.segments));
}
