use Rattle.std.proofs.Common.{◌≤◌, length}
use Rattle.cmap_encode.specs.Pieces.{Choices}
use Rattle.cmap_encode.specs.Ways.{AreWays}
use Rattle.cmap_encode.proofs.WaysFollowed.{AreFirstPieces}
use Rattle.cmap_encode.proofs.pieces.pieces_of.Given as goal

abbrev pub invariant-loop-left : goal.invariant-loop-left
invariant-loop-left l = record {
  within : l.left ≤ length l.ways;
  first : (choices : Choices) → AreWays choices l.text l.ways → AreFirstPieces choices l.text l.pieces.items l.left;
}

abbrev pub decreases-loop-left : goal.decreases-loop-left
decreases-loop-left l = l.left
