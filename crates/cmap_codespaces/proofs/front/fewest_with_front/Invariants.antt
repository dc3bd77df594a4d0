use Rattle.std.proofs.Common.{ℕ, ◌<◌, ◌≤◌}
use Rattle.cmap_codespaces.specs.SpaceBits.{IsFound, query_of}
use Rattle.cmap_codespaces.proofs.front.fewest_with_front.Given as goal

abbrev pub invariant-loop-byte_len : goal.invariant-loop-byte_len
invariant-loop-byte_len l = (n : ℕ) → 1 ≤ n → n < l.byte_len → IsFound l.rows (query_of n l.front) → ⊥
