use Rattle.std.proofs.Common.{◌≡◌, ℕ, ◌+◌, ◌-◌, ◌<◌, ◌≤◌}
use Rattle.std.specs.Int.{bit_at}
use Rattle.cmap_codespaces.specs.SpaceBits.{IsFoundAt}
use Rattle.cmap_codespaces.proofs.search.any_of_group.Given as goal

abbrev pub invariant-loop-bit : goal.invariant-loop-bit
invariant-loop-bit l = record {
  within : l.next ≤ 64;
  none : (bit : ℕ) → bit < l.next → bit_at l.bits bit ≡ 1 → IsFoundAt l.blocks l.query (l.first + bit) → ⊥;
}

abbrev pub decreases-loop-bit : goal.decreases-loop-bit
decreases-loop-bit l = 64 - l.next
