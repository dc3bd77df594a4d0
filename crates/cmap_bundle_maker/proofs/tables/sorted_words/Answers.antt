use Rattle.std.proofs.Common.{rules}
use Rattle.std.proofs.lemmas.List.Sorted.{answers_always}
use Rattle.cmap_bundle_maker.specs.Seen.{frequencies_seen, word_seen}
use Rattle.cmap_bundle_maker.specs.declared.lengths.WordLength.{WordLength}
use Rattle.cmap_bundle_maker.proofs.GroupsJoined.{alone_rising}
use Rattle.cmap_bundle_maker.proofs.TablesMade.{words_sorted}
use Rattle.cmap_bundle_maker.proofs.tables.sorted_words.Goals as goal

pub word_lengths-requires-clause-rising : goal.word_lengths-requires-clause-rising
word_lengths-requires-clause-rising c = alone_rising (frequencies_seen c.args.frequencies.now) c.requires.order

pub returns : goal.returns
returns c = words_sorted word_seen (frequencies_seen c.args.frequencies.now) c.requires.distinct c.in_ok-words.words.items c.sort_by_key.new.self.items c.in_ok-words.ensures c.in_ok-sort_by_key.ensures.permutation (c.in_ok-sort_by_key.ensures.sorted (λ (w : WordLength). (w.len, w.number)) (answers_always _ _ _ (λ f a r g h. search rules)))
