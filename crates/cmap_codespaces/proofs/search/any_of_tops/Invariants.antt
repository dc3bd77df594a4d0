use Rattle.std.proofs.Common.{ℕ, ◌*◌, ◌<◌}
use Rattle.cmap_codespaces.specs.SpaceBits.{IsFoundAt}
use Rattle.cmap_codespaces.proofs.search.any_of_tops.Given as goal

abbrev pub invariant-loop-index : goal.invariant-loop-index
invariant-loop-index l = (index : ℕ) → index < 4096 * l.index → IsFoundAt l.blocks l.query index → ⊥
