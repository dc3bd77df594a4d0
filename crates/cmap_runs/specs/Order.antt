-- Private aid: how the runs of a table lie.
use Rattle.std.specs.Prelude.{ℕ, ◌<◌, ◌≤◌, ◌^◌, List, All, AllPairs, length}
use Rattle.std.specs.List.{AllWithin}
use Rattle.cmap_runs.specs.Ranges.{Run}

-- each run holds some code, and all its codes lie below those of each later run
pub record IsInOrder (runs : List Run) : Type 0 where
  pub filled : All (λ run. run.low ≤ run.high) runs
  pub apart : AllPairs (λ run later. run.high < later.low) runs

-- exactly the first `ended` runs end before the code
pub record IsFirstLeft (runs : List Run) (code ended : ℕ) : Type 0 where
  pub fits : code ≤ 2 ^ 32
  pub within : ended ≤ length runs
  pub before : AllWithin (λ run. run.high < code) runs 0 ended
  pub after : AllWithin (λ run. code ≤ run.high) runs ended (length runs)
