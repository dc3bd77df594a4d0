-- Private aid: code words by the number of words of each length, and the search, length by length, for the word that bits begin with.
use Rattle.std.specs.Prelude.{◌≡◌, ℕ, All, ◌+◌, ◌-◌, ◌*◌, ◌^◌, ◌<◌, ◌≤◌, List, [], ◌∷◌, ◌++◌, length, get_or, drop, Option, Some, None, if◌then◌else◌, nat_lt}
use Rattle.cmap_binary.specs.PrefixWords.{CodeWord, AreWordLengths, lengths_from, zip_words}

abbrev pub AreBits : List ℕ → Type 0
AreBits ds = All (λ d. d < 2) ds

abbrev pub words_of : List ℕ → List ℕ → List CodeWord
words_of counts symbols = zip_words (lengths_from 1 counts) symbols

pub record IsTable (counts symbols : List ℕ) : Type 0 where
  pub a_symbol_each : length symbols ≡ length (lengths_from 1 counts)
  pub sound : AreWordLengths (lengths_from 1 counts)

-- the state of a search for a word. The word has more than len bits, rank is the number of words with at most len bits, and `past` is the number in the bits so far, counted from the first number after these words
pub record Progress : Type 0 where
  pub len : ℕ
  pub rank : ℕ
  pub past : ℕ

abbrev pub start : Progress
start = record { len = 0; rank = 0; past = 0 }

-- the state after one more bit, past the `count` words that end with this bit
abbrev pub with_bit : Progress → ℕ → ℕ → Progress
with_bit p count bit = record { len = p.len + 1; rank = p.rank + count; past = p.past * 2 + bit - count }

-- a word by its rank among all words, and the number of its bits
pub record Ranked : Type 0 where
  pub rank : ℕ
  pub len : ℕ

-- the word that ends in the bits that come next, by the number of words of each length that comes next
abbrev pub word_in : Progress → List ℕ → List ℕ → Option Ranked
word_in p counts [] = None
word_in p [] (bit ∷ stream) = None
word_in p (count ∷ counts) (bit ∷ stream) =
    let next = p.past * 2 + bit in
    if nat_lt next count then Some (record { rank = p.rank + next; len = p.len + 1 }) else word_in (with_bit p count bit) counts stream

-- the word that bits begin with
abbrev pub first_word : List ℕ → List ℕ → Option Ranked
first_word counts stream = word_in start counts stream

-- the word that the bits begin with has this symbol and this many bits
abbrev pub IsFirst : List ℕ → List ℕ → List ℕ → ℕ → ℕ → Type 0
IsFirst counts symbols stream symbol len = (rank : ℕ) × (first_word counts stream ≡ Some (record { rank = rank; len = len })) × (symbol ≡ get_or symbols rank 0)

-- the search for the word that bits begin with has reached this state, in numbers that fit; whatever bits follow, the search from this state on finds the same word
pub record IsSearched (counts front : List ℕ) (p : Progress) : Type 0 where
  pub enough : p.len ≤ length front
  pub most : p.len ≤ 32
  pub small : p.past < 2 ^ p.len
  pub few : p.rank ≤ 4294967295 * p.len
  pub same : (more : List ℕ) → first_word counts (front ++ more) ≡ word_in p (drop p.len counts) (drop p.len (front ++ more))
