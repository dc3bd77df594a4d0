use Rattle.cmap_binary.specs.PrefixWords.{bits_of}
use Rattle.cmap_binary.specs.WordsByLength.{IsSearched}
use Rattle.cmap_binary.proofs.prefix.words.find.Given as goal

abbrev pub invariant-loop-i : goal.invariant-loop-i
invariant-loop-i l = IsSearched l.counts (bits_of l.held l.number) (record { len = l.i; rank = l.rank; past = l.past })
