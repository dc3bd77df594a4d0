-- Where a text is refused: it is no file, and the bytes up to there decide it.
use Rattle.std.proofs.Common.{◌≡◌, ℕ, ◌+◌, List, ◌++◌, ◌≤◌, length, take, subst, arith}
use Rattle.cmap_values.specs.Only.{HoldsOfNone}
use Rattle.cmap_values.specs.Outcomes.{DecidedBy}
use Rattle.cmap_values.specs.declared.fault.Stop.{Stop}
use Rattle.cmap_tokens.proofs.Fronts.{has_tokens}
use Rattle.cmap_text.specs.TextFiles.{IsTextFile}
use Rattle.cmap_text.specs.TextReading.{StopsText}
use Rattle.cmap_text.specs.TokenParsers.{offset_of}
use Rattle.cmap_text.proofs.Local.{decided}
use Rattle.cmap_text.proofs.TextRead.{no_file}

pub refused_text : (text : List ℕ) (stop : Stop) → StopsText text stop → HoldsOfNone (IsTextFile text) × (stop.offset ≤ length text)
refused_text text stop (e, none, offset, reason) = (no_file text _ (has_tokens text) e none, omega (arith, offset))

pub decided_text : (text : List ℕ) (stop : Stop) → StopsText text stop → DecidedBy IsTextFile text stop
decided_text text stop (e, none, offset, reason) =
    λ within more.
    let same : offset_of e ≡ stop.offset = omega (arith, offset, within) in
    subst (λ n. HoldsOfNone (IsTextFile (take (1 + n) text ++ more))) same (decided text e none (omega (arith, offset, within)) more)
