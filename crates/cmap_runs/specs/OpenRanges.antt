-- Private aid: open ranges, which have begun. An open range is the index of its declaration and its last code.
use Rattle.std.specs.Prelude.{◌≡◌, ℕ, ◌+◌, ◌-◌, ◌*◌, ◌<◌, ◌≤◌, ◌^◌, ◌⊎◌, List, ◌∷◌, All, Option, Some, None, get_or, length, slice_get, take}
use Rattle.std.specs.BinaryHeap.{IsHeap}
use Rattle.std.specs.List.{Contains}
use Rattle.std.specs.List.Sorted.{IsNonDecreasingBy, IsPermutation}
use Rattle.std.specs.Ordering.{nat_cmp, ordering_then}
use Rattle.cmap_runs.specs.DeclaredRanges.{AreRanges}
use Rattle.cmap_runs.specs.Ranges.{AreRunsBelow, Run, Span, last_index}

-- the greatest index of an open range that doesn't end before the code, or none
abbrev pub IsGreatest : List (ℕ × ℕ) → ℕ → Option ℕ → Type 0
IsGreatest ends code None = (index last : ℕ) → Contains ends (index, last) → last < code
IsGreatest ends code (Some index) = ((last : ℕ) × Contains ends (index, last) × (code ≤ last))
    × ((other last : ℕ) → Contains ends (other, last) → code ≤ last → other ≤ index)

-- some ranges were closed; each closed range ends before the code
pub record StayOpen (before after : List (ℕ × ℕ)) (code : ℕ) : Type 0 where
  pub kept : (index last : ℕ) → Contains before (index, last) → (last < code) ⊎ Contains after (index, last)
  pub no_more : (index last : ℕ) → Contains after (index, last) → Contains before (index, last)

abbrev pub entry_of : Run → ℕ × ℕ
entry_of range = (range.index, range.high)

-- an open range with the index of this range, or with a greater index, ends no earlier
abbrev pub IsCovered : List (ℕ × ℕ) → Run → Type 0
IsCovered ends range = (index last : ℕ) × Contains ends (index, last) × (range.index ≤ index) × (range.high ≤ last)

-- a range was opened, or another open range covers it
pub record Opens (before after : List (ℕ × ℕ)) (range : Run) : Type 0 where
  pub covered : IsCovered after range
  pub kept : (index last : ℕ) → Contains before (index, last) → Contains after (index, last)
  pub no_more : (index last : ℕ) → Contains after (index, last) → (entry_of range ≡ (index, last)) ⊎ Contains before (index, last)

-- each open range has begun by the code; each range that has begun is covered by an open range, or ends before the code
pub record AreOpen (spans : List Span) (begun : List Run) (ends : List (ℕ × ℕ)) (code : ℕ) : Type 0 where
  pub kept : All (λ range. (range.high < code) ⊎ IsCovered ends range) begun
  pub no_more : (index last : ℕ) → Contains ends (index, last) → (start : ℕ) × (start ≤ code) × (slice_get spans index ≡ Some (record { start = start; end = last }))

-- the first `begun` ranges were opened, and the runs below the code are made; the other ranges begin at or after the code
pub record IsSwept (ranges : List Run) (begun code : ℕ) (ends : List (ℕ × ℕ)) (runs : List Run) : Type 0 where
  pub later : (k : ℕ) (d : Run) → begun ≤ k → k < length ranges → code ≤ (get_or ranges k d).low
  pub limit : code ≤ 2 ^ 32
  pub are : (spans : List Span) → AreRanges spans (length spans) ranges → AreOpen spans (take begun ranges) ends code × AreRunsBelow (last_index spans) code runs
  pub few : length runs + length ends ≤ 2 * begun - 1

-- a heap with the greatest index on top
abbrev pub HasGreatestOnTop : List (ℕ × ℕ) → Type 0
HasGreatestOnTop ends = IsHeap (λ x y. ordering_then (nat_cmp x.0 y.0) (nat_cmp x.1 y.1)) ends

-- the indices ascend
abbrev pub Ascend : List (ℕ × ℕ) → Type 0
Ascend ends = IsNonDecreasingBy (λ (range : ℕ × ℕ). range.0) ends

-- an open range with the greatest index
pub record IsTop (ends : List (ℕ × ℕ)) (range : ℕ × ℕ) : Type 0 where
  pub is : Contains ends range
  pub greatest : All (λ other. other.0 ≤ range.0) ends

-- the range has the greatest index, and is closed if it ends before the code
pub record Closes (before after : List (ℕ × ℕ)) (code : ℕ) (range : ℕ × ℕ) : Type 0 where
  pub top : IsTop before range
  pub stays : code ≤ range.1 → after ≡ before
  pub closed : range.1 < code → IsPermutation before (range ∷ after)

-- if any range is open, the range is given and has the greatest index
abbrev pub ClosesTop : List (ℕ × ℕ) → List (ℕ × ℕ) → ℕ → Option (ℕ × ℕ) → Type 0
ClosesTop before after code None = (length before ≡ 0) × (after ≡ before)
ClosesTop before after code (Some range) = Closes before after code range
