use Rattle.std.proofs.Common.{ℕ, ◌<◌, ◌≤◌}
use Rattle.cmap_values.specs.CodeLengths.{length_of}
use Rattle.cmap_encode.specs.Outside.{IsInside}
use Rattle.cmap_encode.proofs.outside.outside_until.Given as goal

abbrev pub invariant-loop-after : goal.invariant-loop-after
invariant-loop-after l = record {
  within : l.code.number ≤ l.last;
  outside : (number : ℕ) → l.code.number < number → number ≤ l.last → IsInside l.encoding (length_of l.code.len) number → ⊥;
}
