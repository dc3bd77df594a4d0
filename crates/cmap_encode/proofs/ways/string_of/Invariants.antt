use Rattle.std.proofs.Common.{◌≡◌, ◌≤◌, List, ℕ, length}
use Rattle.cmap_encode.specs.Pieces.{Choices}
use Rattle.cmap_encode.specs.Ways.{AreWays}
use Rattle.cmap_encode.proofs.WaysFollowed.{AreFirst}
use Rattle.cmap_encode.proofs.ways.string_of.Given as goal

abbrev pub invariant-loop-left : goal.invariant-loop-left
invariant-loop-left l = record {
  within : l.left ≤ length l.ways;
  first : (choices : Choices) (text : List ℕ) → AreWays choices text l.ways → length l.ways ≡ length text → AreFirst choices text l.string.items l.left;
}

abbrev pub decreases-loop-left : goal.decreases-loop-left
decreases-loop-left l = l.left
