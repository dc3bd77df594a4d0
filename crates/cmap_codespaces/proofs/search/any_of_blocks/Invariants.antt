use Rattle.std.proofs.Common.{ℕ, ◌<◌}
use Rattle.cmap_codespaces.specs.SpaceBits.{IsFoundAt}
use Rattle.cmap_codespaces.proofs.search.any_of_blocks.Given as goal

abbrev pub invariant-loop-rows : goal.invariant-loop-rows
invariant-loop-rows l = (index : ℕ) → index < l.rows-index → IsFoundAt l.blocks l.query index → ⊥
