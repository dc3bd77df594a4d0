use Rattle.std.proofs.Common.{length}
use Rattle.cmap_values.specs.FilesSeen.{file_seen}
use Rattle.cmap_binary.specs.BundleSeen.{tables_seen}
use Rattle.cmap_binary.proofs.SegmentsSalvaged.{SalvagedSoFar}
use Rattle.cmap_binary.proofs.salvage.add_segments.Given as goal

abbrev pub invariant-loop-segments : goal.invariant-loop-segments
invariant-loop-segments l = SalvagedSoFar (tables_seen l.tables) l.body l.segments l.initial.faults.items (file_seen l.file) l.faults.items

abbrev pub decreases-loop-segments : goal.decreases-loop-segments
decreases-loop-segments l = length l.segments
