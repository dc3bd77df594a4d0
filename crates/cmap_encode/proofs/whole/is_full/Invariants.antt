use Rattle.cmap_values.specs.DeclarationsSeen.{codespace_seen}
use Rattle.cmap_encode.specs.WholeSeen.{IsFull}
use Rattle.cmap_encode.proofs.whole.is_full.Given as goal

abbrev pub invariant-loop-place : goal.invariant-loop-place
invariant-loop-place l = IsFull (codespace_seen l.space) l.place
