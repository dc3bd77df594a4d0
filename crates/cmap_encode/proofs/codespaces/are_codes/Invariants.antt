use Rattle.std.proofs.Common.{length}
use Rattle.std.specs.Prelude.{◌↔◌}
use Rattle.cmap_encode.specs.StringsOfCodes.{AreCodes}
use Rattle.cmap_encode.proofs.codespaces.are_codes.Given as goal

abbrev pub invariant-loop-code : goal.invariant-loop-code
invariant-loop-code l = AreCodes l.codespaces l.rest ↔ AreCodes l.codespaces l.string

abbrev pub decreases-loop-code : goal.decreases-loop-code
decreases-loop-code l = length l.rest
