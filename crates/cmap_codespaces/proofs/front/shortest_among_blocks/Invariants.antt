use Rattle.cmap_codespaces.specs.CodesWithin.{IsLeast}
use Rattle.cmap_codespaces.specs.SpaceBits.{IsInsideWithin}
use Rattle.cmap_codespaces.proofs.front.shortest_among_blocks.Given as goal

abbrev pub invariant-loop-rows : goal.invariant-loop-rows
invariant-loop-rows l = IsLeast (IsInsideWithin l.text l.blocks 0 l.rows-index) l.shortest
