-- Huffman's method: code words for numbers, shorter words for more frequent numbers.
use Rattle.std.specs.Prelude.{ℕ, zero, suc, ◌+◌, Bool, ◌==◌, ◌&&◌, ◌||◌, nat_le, nat_lt, if◌then◌else◌, List, [], ◌∷◌, ◌++◌, count_by, flat_map, length, map}
use Rattle.cmap_binary.specs.PrefixWords.{CodeWord}
use Rattle.cmap_bundle_maker.specs.InOrder.{in_order}

-- ---- how often numbers come
-- a number, and how often it occurs
pub record Frequency : Type 0 where
  pub number : ℕ
  pub times : ℕ

abbrev pub times_in : List ℕ → ℕ → ℕ
times_in numbers n = count_by (λ m. m == n) numbers

-- a number occurs less often than another number, or as often and is lower
abbrev pub is_rarer : Frequency → Frequency → Bool
is_rarer e f = nat_lt e.times f.times || ((e.times == f.times) && nat_lt e.number f.number)

-- the frequency of each of the numbers, the rarest number first
abbrev pub frequencies_in : List ℕ → List Frequency
frequencies_in numbers = in_order is_rarer (map (λ n. record { number = n; times = times_in numbers n }) numbers)

-- ---- groups of numbers
-- numbers whose code words share a prefix: how often the numbers occur in all, and the number of bits of each word after the prefix
pub record Group : Type 0 where
  pub times : ℕ
  pub words : List CodeWord

abbrev pub alone : Frequency → Group
alone f = record { times = f.times; words = (record { len = 0; symbol = f.number }) ∷ [] }

abbrev pub longer : CodeWord → CodeWord
longer w = record { len = w.len + 1; symbol = w.symbol }

-- two groups as one: each word begins with one more bit
abbrev pub both : Group → Group → Group
both a b = record { times = a.times + b.times; words = map longer (a.words ++ b.words) }

-- a group in a list of groups, behind the groups that occur as often or less often
abbrev pub behind : Group → List Group → List Group
behind group [] = group ∷ []
behind group (g ∷ groups) = if nat_le g.times group.times then g ∷ behind group groups else group ∷ g ∷ groups

-- the two rarest groups, of groups in order, become one group
abbrev pub join : List Group → List Group
join (a ∷ b ∷ groups) = behind (both a b) groups
join groups = groups

abbrev pub joined : ℕ → List Group → List Group
joined zero groups = groups
joined (suc steps) groups = joined steps (join groups)

-- the words, once all numbers are in one group
abbrev pub words_joined : List Group → List CodeWord
words_joined groups = flat_map (λ group. group.words) (joined (length groups) groups)

-- the words of numbers with these frequencies, the rarest number first: each number starts in a group of its own
abbrev pub huffman_words : List Frequency → List CodeWord
huffman_words frequencies = words_joined (map alone frequencies)
