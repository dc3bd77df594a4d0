use Rattle.std.proofs.Common.{subst}
use Rattle.cmap_binary.specs.WordsFound.{IsKnown}
use Rattle.cmap_binary.proofs.WordsSearched.{IsSearched-start}
use Rattle.cmap_binary.proofs.prefix.words.search_byte.Goals as goal

pub find-requires-clause-start : goal.find-requires-clause-start
find-requires-clause-start c = IsSearched-start _ _

pub returns-in-Ok-clause-word : goal.returns-in-Ok-clause-word
returns-in-Ok-clause-word c = subst (λ byte. IsKnown c.args.counts.now c.args.symbols.now byte c.in-Ok.word) c.from.ensures (λ some. c.in-Ok.ensures.found)
