use Rattle.std.proofs.Common.{All, length, map}
use Rattle.cmap_values.specs.CodeLengths.{length_of}
use Rattle.cmap_values.specs.DeclarationsSeen.{entries_seen}
use Rattle.cmap_values.specs.Files.{Declaration}
use Rattle.cmap_binary_writer.specs.Pieces.{IsShort}
use Rattle.cmap_binary_writer.proofs.Arranged.{FullTo}
use Rattle.cmap_binary_writer.proofs.SegmentsAdded.{AddedTo}
use Rattle.cmap_binary_writer.proofs.cids.add_cids.Given as goal

abbrev pub invariant-loop-left : goal.invariant-loop-left
invariant-loop-left l = record {
  short : All IsShort (entries_seen l.left);
  done : AddedTo (λ xs. map (Declaration.cid (length_of l.len)) (entries_seen xs)) l.pieces l.left l.initial.segments.items l.segments.items;
  full : FullTo (λ xs. map (Declaration.cid (length_of l.len)) (entries_seen xs)) l.pieces l.left l.initial.segments.items l.segments.items;
}

abbrev pub decreases-loop-left : goal.decreases-loop-left
decreases-loop-left l = length l.left
