use Rattle.std.proofs.Common.{◌*◌, ◌≤◌, List, length, map, take}
use Rattle.cmap_values.specs.DeclarationsSeen.{bf_entry_seen, bf_range_span}
use Rattle.cmap_values.specs.Files.{BfEntry}
use Rattle.cmap_layers.specs.Lookups.{bf_at, bf_span}
use Rattle.cmap_binary_writer.specs.Arranged.{AreCut}
use Rattle.cmap_binary_writer.specs.Pieces.{AllSayAs, ArePieces, IsShortText}
use Rattle.cmap_binary_writer.specs.TextParts.{units_at}
use Rattle.cmap_binary_writer.specs.Weights.{texts_weight}
use Rattle.cmap_binary_writer.proofs.text_parts.split_texts.Given as goal

abbrev pub invariant-loop-range : goal.invariant-loop-range
invariant-loop-range l = record {
  pieces : ArePieces bf_span bf_at IsShortText (map bf_entry_seen (take l.range-index l.ranges)) (map bf_entry_seen l.pieces.items);
  units : (es : List BfEntry) → AllSayAs bf_span units_at es (map bf_entry_seen (take l.range-index l.ranges)) → AllSayAs bf_span units_at es (map bf_entry_seen l.pieces.items);
  cut : AreCut (map bf_range_span (take l.range-index l.ranges)) (map bf_range_span l.pieces.items);
  few : 256 * length l.pieces.items ≤ texts_weight (take l.range-index l.ranges);
}
