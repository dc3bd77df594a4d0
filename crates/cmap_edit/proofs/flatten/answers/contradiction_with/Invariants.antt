use Rattle.std.proofs.Common.{take}
use Rattle.std.specs.Prelude.{All}
use Rattle.cmap_edit.specs.Parts.{AreKept}
use Rattle.cmap_edit.proofs.flatten.answers.contradiction_with.Given as goal

-- all chosen codes of the lengths so far
abbrev pub invariant-loop-len : goal.invariant-loop-len
invariant-loop-len l = All (AreKept l.layers l.codes) (take l.len-index l.len-items)
