use Rattle.std.proofs.Common.{ℕ, List, length}
use Rattle.cmap_io.specs.PathTexts.{AreBytes, IsTextOf}
use Rattle.cmap_io.proofs.PathsTaken.{IsTakenOf}
use Rattle.cmap_io.proofs.path_text.path_bytes.Given as goal

abbrev pub invariant-loop-byte : goal.invariant-loop-byte
invariant-loop-byte l = (bytes : List ℕ) → AreBytes bytes → IsTextOf bytes l.initial.text → IsTakenOf l.path.items l.rest bytes

abbrev pub decreases-loop-byte : goal.decreases-loop-byte
decreases-loop-byte l = length l.rest
