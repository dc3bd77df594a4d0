-- Private aid: frequencies, code words and groups as contracts see them.
use Rattle.std.specs.Prelude.{List, Option, map, option_map}
use Rattle.cmap_binary.specs.PrefixWords.{CodeWord}
use Rattle.cmap_bundle_maker.specs.Groups.{AreQueues, TakesRarest, merged}
use Rattle.cmap_bundle_maker.specs.Huffman as huffman
use Rattle.cmap_bundle_maker.specs.declared.frequencies.Frequency.{Frequency}
use Rattle.cmap_bundle_maker.specs.declared.lengths.Group.{Group}
use Rattle.cmap_bundle_maker.specs.declared.lengths.Groups.{Groups}
use Rattle.cmap_bundle_maker.specs.declared.lengths.WordLength.{WordLength}

abbrev pub frequency_seen : Frequency → huffman.Frequency
frequency_seen f = record { number = f.number; times = f.times }

abbrev pub frequencies_seen : List Frequency → List huffman.Frequency
frequencies_seen frequencies = map frequency_seen frequencies

abbrev pub word_seen : WordLength → CodeWord
word_seen w = record { len = w.len; symbol = w.number }

abbrev pub words_seen : List WordLength → List CodeWord
words_seen words = map word_seen words

abbrev pub group_seen : Group → huffman.Group
group_seen g = record { times = g.times; words = words_seen g.words.items }

abbrev pub groups_seen : List Group → List huffman.Group
groups_seen groups = map group_seen groups

-- the groups of both queues, in order
abbrev pub groups_in : Groups → List huffman.Group
groups_in groups = merged (groups_seen groups.alone.items) (groups_seen groups.joined.items)

abbrev pub AreQueued : Groups → Type 0
AreQueued groups = AreQueues (groups_seen groups.alone.items) (groups_seen groups.joined.items)

-- the rarest group leaves its queue
abbrev pub Takes : Groups → Option Group → Groups → Type 0
Takes old o new = TakesRarest (groups_seen old.alone.items) (groups_seen old.joined.items) (option_map group_seen o) (groups_seen new.alone.items) (groups_seen new.joined.items)
