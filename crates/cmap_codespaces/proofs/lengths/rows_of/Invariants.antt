use Rattle.cmap_codespaces.specs.SpaceBits.{HaveLengths}
use Rattle.cmap_codespaces.proofs.lengths.rows_of.Given as goal

abbrev pub invariant-loop-index : goal.invariant-loop-index
invariant-loop-index l = HaveLengths l.spaces l.index l.rows.items
