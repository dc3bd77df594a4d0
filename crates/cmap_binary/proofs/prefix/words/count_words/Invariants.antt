use Rattle.cmap_binary.proofs.Lengths.{IsCounted}
use Rattle.cmap_binary.proofs.prefix.words.count_words.Given as goal

abbrev pub invariant-loop-i : goal.invariant-loop-i
invariant-loop-i l = IsCounted l.counts l.i l.total l.room
