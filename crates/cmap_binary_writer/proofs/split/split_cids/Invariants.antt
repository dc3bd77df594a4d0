use Rattle.std.proofs.Common.{◌*◌, ◌≤◌, length, map, take}
use Rattle.cmap_values.specs.DeclarationsSeen.{cid_range_span, entries_seen}
use Rattle.cmap_layers.specs.Lookups.{cid_at, cid_span}
use Rattle.cmap_binary_writer.specs.Arranged.{AreCut}
use Rattle.cmap_binary_writer.specs.Pieces.{ArePieces, IsShort}
use Rattle.cmap_binary_writer.specs.Weights.{cids_weight}
use Rattle.cmap_binary_writer.proofs.split.split_cids.Given as goal

abbrev pub invariant-loop-range : goal.invariant-loop-range
invariant-loop-range l = record {
  pieces : ArePieces cid_span cid_at IsShort (entries_seen (take l.range-index l.ranges)) (entries_seen l.pieces.items);
  cut : AreCut (map cid_range_span (take l.range-index l.ranges)) (map cid_range_span l.pieces.items);
  few : 256 * length l.pieces.items ≤ cids_weight (take l.range-index l.ranges);
}
