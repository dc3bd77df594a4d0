-- Private aid: the ranges of declarations.
use Rattle.std.specs.Prelude.{◌≡◌, ℕ, ◌+◌, ◌<◌, ◌≤◌, ◌^◌, List, All, Some, slice_get, length, get_or, map}
use Rattle.std.specs.List.{Contains, range_with_len}
use Rattle.std.specs.List.Sorted.{IsPermutation}
use Rattle.cmap_runs.specs.Ranges.{Span, Run}

-- the run is the whole range of the declaration at its index
pub record IsRange (spans : List Span) (run : Run) : Type 0 where
  pub at_index : slice_get spans run.index ≡ Some (record { start = run.low; end = run.high })
  pub filled : run.low ≤ run.high
  pub fits : run.high < 2 ^ 32

-- the ranges of the first `count` declarations, without empty ranges
pub record AreRanges (spans : List Span) (count : ℕ) (ranges : List Run) : Type 0 where
  pub each : All (IsRange spans) ranges
  pub every : (index : ℕ) (span : Span) → index < count → slice_get spans index ≡ Some span → span.start ≤ span.end → Contains ranges (record { low = span.start; high = span.end; index = index })
  pub few : length ranges ≤ count

-- each range ends before the next range begins
abbrev pub AreApart : List Run → Type 0
AreApart ranges = (i : ℕ) (d : Run) → i + 1 < length ranges → (get_or ranges i d).high < (get_or ranges (i + 1) d).low

-- ranges that lie apart, and none is empty
pub record LieApart (ranges : List Run) : Type 0 where
  pub filled : All (λ range. (range.low ≤ range.high) × (range.high < 2 ^ 32)) ranges
  pub apart : AreApart ranges

-- the range of the declaration at the index; an empty range if there is no such declaration
abbrev pub range_at : List Span → ℕ → Run
range_at spans index = let span = get_or spans index (record { start = 1; end = 0 }) in record { low = span.start; high = span.end; index = index }

-- the index of each declaration, in an order in which their ranges lie apart
pub record ArePlacesApart (spans : List Span) (indices : List ℕ) : Type 0 where
  pub every : IsPermutation (range_with_len 0 (length spans)) indices
  pub apart : LieApart (map (range_at spans) indices)

-- the ranges at the indices lie apart in this order, before the code
pub record LieApartBefore (spans : List Span) (indices : List ℕ) (code : ℕ) : Type 0 where
  pub apart : LieApart (map (range_at spans) indices)
  pub before : All (λ range. range.high < code) (map (range_at spans) indices)

-- declarations, and the runs of codes that each decides
pub record DecidedRuns (T : Type 0) : Type 0 where
  pub declarations : List T
  pub runs : List Run
