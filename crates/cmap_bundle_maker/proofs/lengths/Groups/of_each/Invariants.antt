use Rattle.std.proofs.Common.{◌≡◌, [], map, take}
use Rattle.cmap_bundle_maker.specs.Huffman.{alone}
use Rattle.cmap_bundle_maker.specs.Seen.{frequencies_seen, groups_seen}
use Rattle.cmap_bundle_maker.proofs.lengths.Groups.of_each.Given as goal

abbrev pub invariant-loop-frequency : goal.invariant-loop-frequency
invariant-loop-frequency l = (groups_seen l.groups.alone.items ≡ map alone (frequencies_seen (take l.frequency-index l.frequencies))) × (l.groups.joined.items ≡ [])
