use Rattle.std.proofs.Common.{◌-◌, ◌≤◌, length}
use Rattle.cmap_binary_writer.specs.Arranged.{text_type}
use Rattle.cmap_binary_writer.specs.EncodersSeen.{shape_seen}
use Rattle.cmap_binary_writer.proofs.ArrangedTexts.{HaveType}
use Rattle.cmap_binary_writer.proofs.TextsMade.{FollowTexts}
use Rattle.cmap_binary_writer.proofs.texts.segment_len.Given as goal

abbrev pub invariant-loop-count : goal.invariant-loop-count
invariant-loop-count l = record {
  some : 1 ≤ l.count;
  within : l.count ≤ length l.entries;
  few : l.count ≤ 65535;
  follow : FollowTexts (shape_seen l.form.shape) l.form.units l.entries l.count;
  typed : HaveType (text_type (shape_seen l.form.shape) l.form.units) l.entries l.count;
}

abbrev pub decreases-loop-count : goal.decreases-loop-count
decreases-loop-count l = length l.entries - l.count
