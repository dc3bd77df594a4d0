use Rattle.std.proofs.Common.{◌≡◌, ◌+◌, length, map}
use Rattle.cmap_bundle_maker.specs.Huffman.{alone, words_joined}
use Rattle.cmap_bundle_maker.specs.Seen.{AreQueued, frequencies_seen, groups_in}
use Rattle.cmap_bundle_maker.proofs.lengths.word_lengths.Given as goal

abbrev pub invariant-loop : goal.invariant-loop
invariant-loop l =
    AreQueued l.groups × (words_joined (groups_in l.groups) ≡ words_joined (map alone (frequencies_seen l.frequencies))) × (length (groups_in l.groups) + l.counter ≡ length l.frequencies + 1)
