use Rattle.std.proofs.Common.{ℕ, ◌<◌, ◌≤◌}
use Rattle.cmap_layers.specs.LayersSeen.{layers_seen}
use Rattle.cmap_layers.proofs.BestMatch.{HaveFront}
use Rattle.cmap_layers.proofs.string_codes.shortest_with_front.Given as goal

abbrev pub invariant-loop-byte_len : goal.invariant-loop-byte_len
invariant-loop-byte_len l = (n : ℕ) → 1 ≤ n → n < l.byte_len → HaveFront (layers_seen l.layers) l.front n → ⊥
