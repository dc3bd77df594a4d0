-- Private aid: what is known of the code word that bits begin with.
use Rattle.std.specs.Prelude.{◌≡◌, ◌<◌, ◌≤◌, ℕ, List, ◌++◌, length, slice_index_or, Option, None, MatchOption}
use Rattle.cmap_binary.specs.PrefixWords.{bits_of}
use Rattle.cmap_binary.specs.WordsByLength.{IsFirst, IsSearched, Progress, first_word}
use Rattle.cmap_binary.specs.declared.prefix.words.Known.{Known}
use Rattle.cmap_binary.specs.declared.prefix.words.Search.{Search}
use Rattle.cmap_binary.specs.declared.prefix.words.Word.{Word}

abbrev pub search_seen : Search → Progress
search_seen search = record { len = search.len; rank = search.rank; past = search.past }

-- the word of up to eight bits that the bits of a byte begin with, whatever follows them; a word of no bits stands for no word
abbrev pub IsKnown : List ℕ → List ℕ → ℕ → Word → Type 0
IsKnown counts symbols byte word = 0 < word.len → (word.len ≤ 8) × ((more : List ℕ) → IsFirst counts symbols (bits_of 8 byte ++ more) word.symbol word.len)

-- the state of the search for the word that the bits of a byte begin with
abbrev pub IsSearchedByte : List ℕ → ℕ → Search → Type 0
IsSearchedByte counts byte search = IsSearched counts (bits_of 8 byte) (search_seen search)

-- `holds` is true of the item for each byte
abbrev pub ForBytes : {A : Type 0} → (ℕ → A → Type 0) → List A → Type 0
ForBytes holds items = (byte : ℕ) (other : _) → byte < length items → holds byte (slice_index_or items byte other)

-- the words and the states of searches that are known for each byte
pub record KnowBytes (counts symbols : List ℕ) (known : Known) : Type 0 where
  pub a_word_each : length known.words.items ≡ 256
  pub a_search_each : length known.searches.items ≡ 256
  pub words : ForBytes (IsKnown counts symbols) known.words.items
  pub searches : ForBytes (IsSearchedByte counts) known.searches.items

-- the word that is found is the word that the bits begin with; if no word is found, the bits begin with no word
abbrev pub FindsFirst : List ℕ → List ℕ → List ℕ → Option Word → Type 0
FindsFirst counts symbols stream found = MatchOption found (first_word counts stream ≡ None) (λ word. IsFirst counts symbols stream word.symbol word.len)
