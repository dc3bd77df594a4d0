use Rattle.std.proofs.Common.{◌≡◌, ℕ, ◌-◌, ◌/◌, ◌^◌, ◌<◌, ◌≤◌}
use Rattle.cmap_values.specs.CodeLengths.{length_of}
use Rattle.cmap_encode.specs.Outside.{IsInside}
use Rattle.cmap_encode.proofs.whole.prefix_may_be_inside.Given as goal

abbrev pub invariant-loop-left : goal.invariant-loop-left
invariant-loop-left l = (number left : ℕ) → number / 256 ^ l.after ≡ l.code.number / 256 ^ l.after → 1 ≤ left → left < l.left → IsInside l.encoding (length_of l.code.len - left) (number / 256 ^ left) → ⊥
