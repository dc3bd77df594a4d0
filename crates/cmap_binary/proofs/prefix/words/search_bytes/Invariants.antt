use Rattle.std.proofs.Common.{◌≡◌, length}
use Rattle.cmap_binary.specs.WordsFound.{ForBytes, IsKnown, IsSearchedByte}
use Rattle.cmap_binary.proofs.prefix.words.search_bytes.Given as goal

abbrev pub invariant-loop-byte : goal.invariant-loop-byte
invariant-loop-byte l = record {
  words_size : length l.words.items ≡ l.byte;
  searches_size : length l.searches.items ≡ l.byte;
  words : ForBytes (IsKnown l.counts l.symbols) l.words.items;
  searches : ForBytes (IsSearchedByte l.counts) l.searches.items;
}
