-- Consecutive codes that one declaration decides, or that no declaration contains.
use Rattle.std.specs.Prelude.{◌≡◌, ◌≢◌, ℕ, ◌+◌, ◌<◌, ◌≤◌, ◌^◌, List, Option}
use Rattle.cmap_runs.specs.Ranges.{Span, last_index, last_of}

-- the codes from the next one on, and the declarations that decide them
pub record CodesLeft (T : Type 0) : Type 0 where
  pub declarations : List T
  pub next : ℕ

-- for each code from first to last, the last declaration that contains the code is this declaration, or no declaration contains the code
abbrev pub IsStretch : {A : Type 0} → (A → Span) → List A → ℕ → ℕ → Option A → Type 0
IsStretch span_of xs first last decides = (code : ℕ) → first ≤ code → code ≤ last → last_of span_of xs code ≡ decides

-- no longer stretch could begin with the first code: the code after the last code is decided differently, or isn't a code of 32 bits
abbrev pub IsLongest : List Span → ℕ → ℕ → Type 0
IsLongest spans first last = last + 1 < 2 ^ 32 → last_index spans (last + 1) ≢ last_index spans first
