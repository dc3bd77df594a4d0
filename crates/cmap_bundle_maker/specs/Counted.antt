-- Private aid: numbers that are counted, and words that are sorted.
use Rattle.std.specs.Prelude.{◌≡◌, ◌⊎◌, ℕ, ◌+◌, ◌-◌, ◌<◌, ◌≤◌, ◌==◌, List, [], ◌∷◌, ◌++◌, get_or, length, map, nat_lt, sum_by}
use Rattle.std.specs.List.{All, Contains, count_by}
use Rattle.std.specs.List.Sorted.{IsPermutation}
use Rattle.cmap_binary.specs.PrefixWords.{CodeWord}
use Rattle.cmap_bundle_maker.specs.Huffman.{Frequency, times_in}
use Rattle.cmap_bundle_maker.specs.InOrder.{AreInOrder}
use Rattle.cmap_bundle_maker.specs.Tables.{is_shorter}

abbrev pub numbers_of : List Frequency → List ℕ
numbers_of fs = map (λ f. f.number) fs

-- the frequency of each of the numbers, the lowest number first
pub record AreFrequencies (numbers : List ℕ) (fs : List Frequency) : Type 0 where
  pub order : AreInOrder nat_lt (numbers_of fs)
  pub kept : All (Contains (numbers_of fs)) numbers
  pub found : All (Contains numbers) (numbers_of fs)
  pub times : All (λ f. f.times ≡ times_in numbers f.number) fs
  pub total : sum_by (λ f. f.times) fs ≡ length numbers

-- the last frequency counts the number once more, or the number isn't the last and has a new frequency after the others
abbrev pub CountsNumber : List Frequency → ℕ → List Frequency → Type 0
CountsNumber fs n after =
    ((front : List Frequency) × (times : ℕ) × (fs ≡ front ++ record { number = n; times = times } ∷ []) × (after ≡ front ++ record { number = n; times = times + 1 } ∷ []))
    ⊎ ((after ≡ fs ++ record { number = n; times = 1 } ∷ []) × ((d : Frequency) → 0 < length fs → (get_or fs (length fs - 1) d).number ≡ n → ⊥))

-- no number occurs twice
abbrev pub AreDistinct : List Frequency → Type 0
AreDistinct fs = (n : ℕ) → count_by (λ f. f.number == n) fs ≤ 1

-- the same words, the shortest first, each for a number of its own
pub record AreSortedWords (words sorted : List CodeWord) : Type 0 where
  pub same : IsPermutation words sorted
  pub order : AreInOrder is_shorter sorted
  pub distinct : (n : ℕ) → count_by (λ w. w.symbol == n) sorted ≤ 1
