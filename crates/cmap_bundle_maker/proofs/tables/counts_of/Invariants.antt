use Rattle.std.proofs.Common.{◌≡◌, ◌<◌, ◌^◌, All, length, take}
use Rattle.cmap_binary.specs.PrefixWords.{lengths_from}
use Rattle.cmap_bundle_maker.specs.Seen.{words_seen}
use Rattle.cmap_bundle_maker.proofs.TablesMade.{word_bits}
use Rattle.cmap_bundle_maker.proofs.tables.counts_of.Given as goal

abbrev pub invariant-loop-word : goal.invariant-loop-word
invariant-loop-word l = (length l.counts.items ≡ 32) × All (λ n. n < 2 ^ 16) l.counts.items × (lengths_from 1 l.counts.items ≡ take l.word-index (word_bits (words_seen l.words)))
