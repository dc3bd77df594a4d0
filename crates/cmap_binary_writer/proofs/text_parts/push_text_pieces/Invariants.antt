use Rattle.std.proofs.Common.{◌+◌, ◌-◌, ◌*◌, ◌≤◌, length, map}
use Rattle.cmap_values.specs.DeclarationsSeen.{bf_entry_seen, bf_range_span}
use Rattle.cmap_binary_writer.proofs.Cuts.{CutTo}
use Rattle.cmap_binary_writer.proofs.TextParts.{PiecesBefore}
use Rattle.cmap_binary_writer.proofs.text_parts.push_text_pieces.Given as goal

abbrev pub invariant-loop-start : goal.invariant-loop-start
invariant-loop-start l = record {
  first : l.entry.range.start ≤ l.start;
  left : l.start ≤ l.end;
  few : 256 * length l.pieces.items + l.entry.range.start ≤ 256 * length l.initial.pieces.items + l.start;
  pieces : PiecesBefore (bf_entry_seen l.entry) l.start (map bf_entry_seen l.initial.pieces.items) (map bf_entry_seen l.pieces.items);
  cut : CutTo (bf_range_span l.entry) (record { start = l.start; end = l.end }) (map bf_range_span l.initial.pieces.items) (map bf_range_span l.pieces.items);
}

abbrev pub decreases-loop-start : goal.decreases-loop-start
decreases-loop-start l = l.end - l.start
