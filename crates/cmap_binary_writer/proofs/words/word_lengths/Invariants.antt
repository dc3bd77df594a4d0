use Rattle.std.proofs.Common.{◌≡◌, take}
use Rattle.cmap_binary.specs.PrefixWords.{lengths_from}
use Rattle.cmap_binary_writer.proofs.words.word_lengths.Given as goal

abbrev pub invariant-loop-i : goal.invariant-loop-i
invariant-loop-i l = l.lens.items ≡ lengths_from 1 (take l.i l.counts)
