use Rattle.std.proofs.Common.{length, ◌++◌}
use Rattle.cmap_values.specs.NamesSeen.{names_seen}
use Rattle.cmap_binary.specs.Fronts.{AllOf, FramedAt}
use Rattle.cmap_binary.proofs.Fronts.{Continues}
use Rattle.cmap_binary.proofs.bundle.split_files.Given as goal

abbrev pub invariant-loop-bytes : goal.invariant-loop-bytes
invariant-loop-bytes l = Continues (AllOf (FramedAt 6) l.initial.bytes) (λ more. names_seen l.files.items ++ more) (AllOf (FramedAt 6) l.bytes)

abbrev pub decreases-loop-bytes : goal.decreases-loop-bytes
decreases-loop-bytes l = length l.bytes
