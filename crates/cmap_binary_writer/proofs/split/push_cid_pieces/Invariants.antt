use Rattle.std.proofs.Common.{◌+◌, ◌-◌, ◌*◌, ◌≤◌, length, map}
use Rattle.cmap_values.specs.DeclarationsSeen.{cid_entry_seen, cid_range_span, entries_seen}
use Rattle.cmap_layers.specs.Lookups.{cid_at, cid_span}
use Rattle.cmap_binary_writer.specs.Pieces.{CanBeSplit, IsShort}
use Rattle.cmap_binary_writer.proofs.CidParts.{entry}
use Rattle.cmap_binary_writer.proofs.Cuts.{CutTo}
use Rattle.cmap_binary_writer.proofs.Told.{PiecesTo}
use Rattle.cmap_binary_writer.proofs.split.push_cid_pieces.Given as goal

abbrev pub invariant-loop-start : goal.invariant-loop-start
invariant-loop-start l = record {
  few : 256 * length l.pieces.items + l.entry.range.start ≤ 256 * length l.initial.pieces.items + l.start;
  can : CanBeSplit (entry l.start l.end l.cid);
  pieces : PiecesTo cid_span cid_at IsShort (cid_entry_seen l.entry) (entry l.start l.end l.cid) (entries_seen l.initial.pieces.items) (entries_seen l.pieces.items);
  cut : CutTo (cid_range_span l.entry) (record { start = l.start; end = l.end }) (map cid_range_span l.initial.pieces.items) (map cid_range_span l.pieces.items);
}

abbrev pub decreases-loop-start : goal.decreases-loop-start
decreases-loop-start l = l.end - l.start
