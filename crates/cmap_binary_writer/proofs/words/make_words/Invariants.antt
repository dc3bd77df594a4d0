use Rattle.std.proofs.Common.{◌≡◌, ◌∷◌, get_or, take}
use Rattle.cmap_binary.specs.PrefixWords.{zip_words}
use Rattle.cmap_binary_writer.specs.WordsHeld.{words_seen, AreWordsTo}
use Rattle.cmap_binary_writer.proofs.words.make_words.Given as goal

abbrev pub invariant-loop-i : goal.invariant-loop-i
invariant-loop-i l = (words_seen l.words.items ≡ zip_words (take l.i l.lens) (take l.i l.symbols)) × AreWordsTo l.words.items l.last l.next × (l.last ≡ get_or (0 ∷ l.lens) l.i 0)
