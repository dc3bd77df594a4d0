-- Prefix tables: code words, which follow from their lengths alone, and the symbols that bits encode.
use Rattle.std.specs.Prelude.{◌≡◌, ℕ, zero, suc, ◌+◌, ◌-◌, ◌/◌, ◌%◌, ◌<◌, ◌≤◌, ◌^◌, List, [], ◌∷◌, ◌++◌, length, map, take, sum_by, flat_map, zip, replicate, Some, slice_get, All}
use Rattle.std.specs.Int.Digits.{number_from_digits}
use Rattle.std.specs.List.Sorted.{IsNonDecreasing}

-- the last count bits of a number, the high one first
abbrev pub bits_of : ℕ → ℕ → List ℕ
bits_of zero n = []
bits_of (suc count) n = n / 2 ^ count % 2 ∷ bits_of count n

-- the bits of bytes, the high one of each byte first
abbrev pub bits : List ℕ → List ℕ
bits bytes = flat_map (λ b. bits_of 8 b) bytes

-- a symbol, and the number of bits in its code word
pub record CodeWord : Type 0 where
  pub len : ℕ
  pub symbol : ℕ

abbrev pub lengths_of : List CodeWord → List ℕ
lengths_of table = map (λ w. w.len) table

-- the number that a code word of len bits writes after code words of these lengths, none of them longer: the sum of 2 ^ (len - shorter)
abbrev pub number_after : List ℕ → ℕ → ℕ
number_after before len = sum_by (λ shorter. 2 ^ (len - shorter)) before

-- the bits of the code word at an index, which has this entry: as many bits as the entry states, which write the number after the code words before it
pub record IsWord (table : List CodeWord) (index : ℕ) (entry : CodeWord) (word : List ℕ) : Type 0 where
  pub entry_is : slice_get table index ≡ Some entry
  pub are_bits : All (λ bit. bit < 2) word
  pub length_is : length word ≡ entry.len
  pub number_is : number_from_digits 2 word ≡ number_after (take index (lengths_of table)) entry.len

abbrev pub IsWordAt : List CodeWord → ℕ → List ℕ → Type 0
IsWordAt table index word = (entry : CodeWord) × IsWord table index entry word

-- lengths of code words: 1 to 32 bits, in rising order, with space for each word
pub record AreWordLengths (lens : List ℕ) : Type 0 where
  pub lengths : All (λ l. (1 ≤ l) × (l ≤ 32)) lens
  pub rising : IsNonDecreasing lens
  pub room : sum_by (λ l. 2 ^ (32 - l)) lens ≤ 2 ^ 32

abbrev pub IsSound : List CodeWord → Type 0
IsSound table = AreWordLengths (lengths_of table)

-- the bits begin with the code word at this index
abbrev pub BeginsAt : List CodeWord → List ℕ → ℕ → Type 0
BeginsAt table stream index = (word rest : List ℕ) × IsWordAt table index word × (stream ≡ word ++ rest)

-- no code word is a prefix of the code word at another index
abbrev pub IsPrefixFree : List CodeWord → Type 0
IsPrefixFree table = (i j : ℕ) (word rest : List ℕ) → IsWordAt table i word → IsWordAt table j (word ++ rest) → i ≡ j

-- the bits begin with a code word of this symbol, which has len bits, and the rest comes after it
pub record Decodes (table : List CodeWord) (stream : List ℕ) (symbol len : ℕ) (rest : List ℕ) : Type 0 where
  pub index : ℕ
  pub word : List ℕ
  pub word_is : IsWord table index (record { len = len; symbol = symbol }) word
  pub bits_are : stream ≡ word ++ rest

-- the bits begin with the code words of these symbols, in order
abbrev pub BeginWithWordsOf : List CodeWord → List ℕ → List ℕ → Type 0
BeginWithWordsOf table [] stream = Unit {0}
BeginWithWordsOf table (symbol ∷ symbols) stream = (len : ℕ) × (rest : List ℕ) × Decodes table stream symbol len rest × BeginWithWordsOf table symbols rest

-- lengths and symbols, index by index
abbrev pub zip_words : List ℕ → List ℕ → List CodeWord
zip_words lens symbols = map (λ p. record { len = p.0; symbol = p.1 }) (zip lens symbols)

-- the lengths of code words in order, from the number of code words of each length, beginning with this length
abbrev pub lengths_from : ℕ → List ℕ → List ℕ
lengths_from len [] = []
lengths_from len (count ∷ counts) = replicate count len ++ lengths_from (len + 1) counts
