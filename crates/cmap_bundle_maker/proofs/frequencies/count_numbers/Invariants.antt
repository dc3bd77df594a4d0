use Rattle.std.proofs.Common.{take}
use Rattle.cmap_bundle_maker.specs.Counted.{AreFrequencies}
use Rattle.cmap_bundle_maker.specs.Seen.{frequencies_seen}
use Rattle.cmap_bundle_maker.proofs.frequencies.count_numbers.Given as goal

abbrev pub invariant-loop-number : goal.invariant-loop-number
invariant-loop-number l = AreFrequencies (take l.number-index l.numbers) (frequencies_seen l.frequencies.items)
