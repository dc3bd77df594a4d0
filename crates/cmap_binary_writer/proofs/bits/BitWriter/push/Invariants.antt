use Rattle.std.proofs.Common.{◌≡◌, ◌≤◌, ◌++◌}
use Rattle.cmap_binary.specs.PrefixWords.{bits_of}
use Rattle.cmap_binary_writer.proofs.bits.BitWriter.push.Given as goal

abbrev pub invariant-loop-left : goal.invariant-loop-left
invariant-loop-left l = (l.left ≤ l.len) × (l.self ++ bits_of l.left l.value ≡ l.initial.self ++ bits_of l.len l.value)

abbrev pub decreases-loop-left : goal.decreases-loop-left
decreases-loop-left l = l.left
