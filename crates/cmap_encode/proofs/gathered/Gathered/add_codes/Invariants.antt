use Rattle.std.proofs.Common.{◌-◌, ◌^◌}
use Rattle.cmap_values.specs.CodeLengths.{length_of}
use Rattle.cmap_encode.specs.Maps.{maps_seen}
use Rattle.cmap_encode.specs.GatheredSeen.{AreGathered}
use Rattle.cmap_encode.proofs.gathered.Gathered.add_codes.Given as goal

abbrev pub invariant-loop-next : goal.invariant-loop-next
invariant-loop-next l = AreGathered (maps_seen l.maps) (length_of l.len) l.next l.self

abbrev pub decreases-loop-next : goal.decreases-loop-next
decreases-loop-next l = 2 ^ 32 - l.next
