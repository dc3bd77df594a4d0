-- Tables of code words for numbers.
use Rattle.std.specs.Prelude.{ℕ, ◌^◌, Bool, ◌==◌, ◌&&◌, ◌||◌, max, nat_le, nat_lt, if◌then◌else◌, List, Option, Some, None, count_by, length, map}
use Rattle.std.specs.List.{list_all}
use Rattle.cmap_binary.specs.PrefixWords.{CodeWord}
use Rattle.cmap_bundle_maker.specs.Huffman.{Frequency, frequencies_in, huffman_words}
use Rattle.cmap_bundle_maker.specs.InOrder.{in_order}

-- a code word has at least one bit
abbrev pub filled : CodeWord → CodeWord
filled w = record { len = max 1 w.len; symbol = w.symbol }

-- a code word is shorter than another code word, or as long with a lower symbol
abbrev pub is_shorter : CodeWord → CodeWord → Bool
is_shorter v w = nat_lt v.len w.len || ((v.len == w.len) && nat_lt v.symbol w.symbol)

-- the words of Huffman's method, the shortest first
abbrev pub huffman_table : List Frequency → List CodeWord
huffman_table frequencies = map filled (in_order is_shorter (huffman_words frequencies))

-- a word of sixteen bits for each number
abbrev pub flat_table : List Frequency → List CodeWord
flat_table frequencies = map (λ f. record { len = 16; symbol = f.number }) frequencies

-- each word has at most 32 bits, and fewer than 2 ^ 16 words have the same length
abbrev pub fits : List CodeWord → Bool
fits table = list_all (λ w. nat_le w.len 32 && nat_lt (count_by (λ v. v.len == w.len) table) (2 ^ 16)) table

-- the table for numbers with these frequencies, the rarest number first: by Huffman's method, or else words of sixteen bits for fewer than 2 ^ 16 numbers
abbrev pub table_of : List Frequency → Option (List CodeWord)
table_of frequencies =
    if fits (huffman_table frequencies) then Some (huffman_table frequencies) else (
    if nat_lt (length frequencies) (2 ^ 16) then Some (flat_table frequencies) else None
    )

abbrev pub table_for : List ℕ → Option (List CodeWord)
table_for numbers = table_of (frequencies_in numbers)
