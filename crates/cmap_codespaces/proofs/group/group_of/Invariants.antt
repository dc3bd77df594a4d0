use Rattle.cmap_codespaces.specs.SpaceBits.{HasGroup}
use Rattle.cmap_codespaces.proofs.group.group_of.Given as goal

abbrev pub invariant-loop-index : goal.invariant-loop-index
invariant-loop-index l = HasGroup l.blocks l.first l.index l.rows.items
