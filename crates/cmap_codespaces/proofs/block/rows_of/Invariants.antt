use Rattle.cmap_codespaces.specs.SpaceBits.{HaveBits}
use Rattle.cmap_codespaces.proofs.block.rows_of.Given as goal

abbrev pub invariant-loop-index : goal.invariant-loop-index
invariant-loop-index l = HaveBits l.spaces l.first l.index l.rows.items
