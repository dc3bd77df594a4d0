use Rattle.std.proofs.Common.{◌≡◌, ◌++◌, List, ℕ, length}
use Rattle.cmap_lint.specs.PartsRead.{AreBlank}
use Rattle.cmap_lint.proofs.read_as.without_blanks.Given as goal

abbrev pub invariant-loop-rest : goal.invariant-loop-rest
invariant-loop-rest l = (blanks : List ℕ) × (l.bytes ≡ l.rest ++ blanks) × AreBlank blanks

abbrev pub decreases-loop-rest : goal.decreases-loop-rest
decreases-loop-rest l = length l.rest
