use Rattle.std.proofs.Common.{◌≤◌, length}
use Rattle.cmap_values.specs.FilesSeen.{file_seen}
use Rattle.cmap_binary.specs.BundleSeen.{tables_seen}
use Rattle.cmap_binary.proofs.FaultsFirst.{FaultsLead}
use Rattle.cmap_binary.proofs.SegmentsSaid.{SaidSoFar}
use Rattle.cmap_binary.proofs.file.add_segments.Given as goal

abbrev pub invariant-loop-segments : goal.invariant-loop-segments
invariant-loop-segments l = SaidSoFar (tables_seen l.tables) l.body l.segments (file_seen l.file) × (length l.segments ≤ length l.body) × FaultsLead (tables_seen l.tables) l.body l.segments

abbrev pub decreases-loop-segments : goal.decreases-loop-segments
decreases-loop-segments l = length l.segments
