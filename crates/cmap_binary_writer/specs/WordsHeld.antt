-- Private aid: code words as a writer holds them.
use Rattle.std.specs.Prelude.{◌≡◌, ℕ, ◌<◌, ◌^◌, ◌≤◌, List, map, take, All, Some, slice_get}
use Rattle.std.specs.List.Sorted.{IsNonDecreasing}
use Rattle.cmap_binary.specs.PrefixWords.{CodeWord, IsSound, lengths_of, number_after, zip_words}
use Rattle.cmap_binary_writer.specs.declared.words.Word.{Word}

abbrev pub word_seen : Word → CodeWord
word_seen word = record { len = word.len; symbol = word.symbol }

abbrev pub words_seen : List Word → List CodeWord
words_seen words = map word_seen words

abbrev pub word_lengths : List Word → List ℕ
word_lengths words = lengths_of (words_seen words)

-- the value of each word follows from the lengths of the words before it
abbrev pub AreWords : List Word → Type 0
AreWords words = (i : ℕ) (w : Word) → slice_get words i ≡ Some w → (w.value ≡ number_after (take i (word_lengths words)) w.len) × (w.value < 2 ^ w.len)

-- words of at most `last` bits; `next` comes after them
pub record AreWordsTo (words : List Word) (last next : ℕ) : Type 0 where
  pub held : AreWords words
  pub most : last ≤ 32
  pub room : next ≤ 2 ^ last
  pub value_is : next ≡ number_after (word_lengths words) last
  pub lengths : All (λ l. (1 ≤ l) × (l ≤ last)) (word_lengths words)
  pub rising : IsNonDecreasing (word_lengths words)

-- words of these lengths, for these symbols
pub record MakesWords (lens symbols : List ℕ) (words : List Word) : Type 0 where
  pub words_are : words_seen words ≡ zip_words lens symbols
  pub sound : IsSound (words_seen words)
  pub held : AreWords words
