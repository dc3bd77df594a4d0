use Rattle.std.proofs.Common.{ℕ, ◌^◌, ◌<◌, ◌≤◌}
use Rattle.cmap_values.specs.CodeLengths.{length_of}
use Rattle.cmap_encode.specs.WholeSeen.{IsWholeNumber}
use Rattle.cmap_encode.proofs.whole.whole_until.Given as goal

abbrev pub invariant-loop-after : goal.invariant-loop-after
invariant-loop-after l = record {
  within : l.code.number ≤ l.last;
  fits : l.last < 256 ^ length_of l.code.len;
  whole : (number : ℕ) → l.code.number ≤ number → number ≤ l.last → IsWholeNumber l.encoding (length_of l.code.len) number;
}
