use Rattle.std.proofs.Common.{ℕ, ◌<◌, ◌≤◌, Any, map}
use Rattle.cmap_values.specs.DeclarationsSeen.{codespace_seen}
use Rattle.cmap_codespaces.specs.CodesWithin.{HasFront}
use Rattle.cmap_codespaces.proofs.spaces.Spaces.fewest_by_queries.Given as goal

abbrev pub invariant-loop-byte_len : goal.invariant-loop-byte_len
invariant-loop-byte_len l = (n : ℕ) → 1 ≤ n → n < l.byte_len → Any (HasFront n l.front) (map codespace_seen l.self) → ⊥
