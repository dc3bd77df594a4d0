use Rattle.cmap_codespaces.specs.SpaceBits.{MayBegin}
use Rattle.cmap_codespaces.proofs.front.shortest_in_block.Given as goal

abbrev pub invariant-loop-place : goal.invariant-loop-place
invariant-loop-place l = MayBegin l.rows l.text l.place l.found
