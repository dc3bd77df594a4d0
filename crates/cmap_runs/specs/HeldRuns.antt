-- Private aid: the runs that a table holds.
use Rattle.std.specs.Prelude.{◌≡◌, ℕ, ◌-◌, ◌*◌, ◌<◌, ◌≤◌, List, All, Some, length, map, slice_get}
use Rattle.cmap_runs.specs.DeclaredRanges.{DecidedRuns, range_at}
use Rattle.cmap_runs.specs.Ranges.{Run, Span, runs_of}
use Rattle.cmap_runs.specs.declared.runs.held.RunList.{RunList}
use Rattle.cmap_runs.specs.declared.runs.held.RunList.TheVariants.{Ranges, Swept}

-- the runs, which may be the ranges of declarations
abbrev pub runs_held : List Span → RunList → List Run
runs_held spans (Ranges indices) = map (range_at spans) indices.items
runs_held spans (Swept runs) = runs

-- there is a declaration at each of the indices
abbrev pub indices_within : ℕ → RunList → Type 0
indices_within count (Ranges indices) = All (λ index. index < count) indices.items
indices_within count (Swept runs) = Unit {0}

-- the held runs are the runs of the declarations, fewer than two runs for each declaration
pub record AreHeld (spans : List Span) (held : RunList) : Type 0 where
  pub runs : runs_held spans held ≡ runs_of spans
  pub within : indices_within (length spans) held
  pub few : length (runs_held spans held) ≤ 2 * length spans - 1

-- the run at a place ends before the code
pub record EndsBefore (runs : List Run) (i code : ℕ) : Type 0 where
  pub run : Run
  pub at : slice_get runs i ≡ Some run
  pub ends : run.high < code

-- the run at a place doesn't end before the code, and this declaration decides the run
pub record Reaches {T : Type 0} (held : DecidedRuns T) (i code : ℕ) (declaration : T) : Type 0 where
  pub run : Run
  pub at : slice_get held.runs i ≡ Some run
  pub reaches : code ≤ run.high
  pub decides : slice_get held.declarations run.index ≡ Some declaration
