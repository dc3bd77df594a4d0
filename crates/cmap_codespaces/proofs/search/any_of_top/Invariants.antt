use Rattle.std.proofs.Common.{◌≡◌, ℕ, ◌+◌, ◌-◌, ◌*◌, ◌<◌, ◌≤◌}
use Rattle.std.specs.Int.{bit_at}
use Rattle.cmap_codespaces.specs.SpaceBits.{IsFoundWithin}
use Rattle.cmap_codespaces.proofs.search.any_of_top.Given as goal

abbrev pub invariant-loop-bit : goal.invariant-loop-bit
invariant-loop-bit l = record {
  within : l.next ≤ 64;
  none : (bit : ℕ) → bit < l.next → bit_at l.bits bit ≡ 1 → IsFoundWithin l.blocks l.query (64 * (l.first + bit)) 64 → ⊥;
}

abbrev pub decreases-loop-bit : goal.decreases-loop-bit
decreases-loop-bit l = 64 - l.next
