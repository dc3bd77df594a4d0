-- Codes as ranges, each as long as possible.
use Rattle.std.specs.Prelude.{◌↔◌, ℕ, ◌+◌, ◌-◌, ◌<◌, ◌≤◌, Bool, false, List, [], ◌∷◌, ◌++◌, length, get_or, set, Option, Some, None, All, AllPairs, Any, slice_get, ◌==◌, if◌then◌else◌}
use Rattle.cmap_values.specs.declared.range.Range.{Range}

-- the code lies in the range
abbrev pub IsIn : ℕ → Range → Type 0
IsIn code range = (range.start ≤ code) × (code ≤ range.end)

-- the ranges, in order, have exactly the codes below a limit for which Holds is true, and no two ranges meet: only one list of ranges has these properties
pub record AreRangesOf (Holds : ℕ → Type 0) (limit : ℕ) (ranges : List Range) : Type 0 where
  pub codes : (code : ℕ) → code < limit → (Holds code ↔ Any (IsIn code) ranges)
  pub within : All (λ range. (range.start ≤ range.end) × (range.end < limit)) ranges
  pub apart : AllPairs (λ range later. range.end + 1 < later.start) ranges

-- ---- private aid
-- the range begins just after the last one
abbrev pub goes_on : Option Range → Range → Bool
goes_on None range = false
goes_on (Some last) range = last.end + 1 == range.start

-- one more range at the end; if it begins just after the last range, the two are joined
abbrev pub joined : List Range → Range → List Range
joined ranges range = let end = length ranges - 1 in if goes_on (slice_get ranges end) range then set ranges end (record (get_or ranges end range) { end = range.end }) else ranges ++ range ∷ []
