-- Private aid: the first and the last of the codes that runs give to a key.
use Rattle.std.specs.Prelude.{◌≡◌, ℕ, ◌+◌, ◌-◌, ◌*◌, ◌^◌, ◌<◌, ◌≤◌, Any, List, Option, IfSome, option_map}
use Rattle.cmap_runs.specs.Ranges.{last_of}
use Rattle.cmap_values.specs.CodeLengths.{length_of}
use Rattle.cmap_encode.specs.CodeRuns.{run_span}
use Rattle.cmap_encode.specs.Strings.{IsNotAfter}
use Rattle.cmap_encode.specs.Ranks.{Candidate, IsFirstAmong, IsFirstBy, candidate_of, place_of, ranked_after}
use Rattle.cmap_encode.specs.declared.key_codes.CodeRun.{CodeRun}
use Rattle.cmap_encode.specs.declared.key_codes.KeyStretch.{KeyStretch}
use Rattle.cmap_encode.specs.declared.rank.Ranked.{Ranked}

-- no key has more than 32 bits, and no code a number that needs more bytes
pub record IsCodeRun (run : CodeRun) : Type 0 where
  pub keys : run.range.end < 2 ^ 32
  pub fits : run.first.code.number + (run.range.end - run.range.start) < 256 ^ length_of run.first.code.len

-- the code of a key of the run
abbrev pub code_at : CodeRun → ℕ → Ranked
code_at run key = ranked_after (key - run.range.start) run.first

-- the run gives the code of these bytes to the key, with this rank
abbrev pub Gives : ℕ → Candidate → CodeRun → Type 0
Gives key candidate run = (run.range.start ≤ key) × (key ≤ run.range.end) × (candidate ≡ candidate_of (code_at run key))

-- of the codes that the runs give to the key, it is the first; or they give none
abbrev pub IsFirstGiven : List CodeRun → ℕ → Option Candidate → Type 0
IsFirstGiven runs key found = IsFirstAmong (λ candidate. Any (Gives key candidate) runs) found

-- of the codes that the runs give to the key, the candidate is the last by its bytes; or they give none
abbrev pub IsLastGiven : List CodeRun → ℕ → Option Candidate → Type 0
IsLastGiven runs key found = IsFirstBy (λ last other. IsNotAfter other.bytes last.bytes) (λ candidate. Any (Gives key candidate) runs) found

-- the code of the key by the last run that contains the key
abbrev pub code_for : List CodeRun → ℕ → Option Ranked
code_for codes key = option_map (λ run. code_at run key) (last_of run_span codes key)

-- the key codes have, for each key, the first code that the runs give to the key
abbrev pub AreFirsts : List CodeRun → List CodeRun → Type 0
AreFirsts runs firsts = (key : ℕ) → IsFirstGiven runs key (option_map candidate_of (code_for firsts key))

-- the key codes have, for each key, the last code that the runs give to the key
abbrev pub AreLasts : List CodeRun → List CodeRun → Type 0
AreLasts runs lasts = (key : ℕ) → IsLastGiven runs key (option_map candidate_of (code_for lasts key))

-- from the first key to the last one codes count on, or none has a code
pub record IsKeyStretch (keys : List CodeRun) (first : ℕ) (stretch : KeyStretch) : Type 0 where
  pub within : first ≤ stretch.last
  pub codes : (count : ℕ) → first + count ≤ stretch.last → code_for keys (first + count) ≡ option_map (ranked_after count) stretch.first
  pub fits : IfSome stretch.first (λ ranked. ranked.code.number + (stretch.last - first) < 256 ^ length_of ranked.code.len)

-- the higher the precedence of a run, the earlier the codes that the run gives
abbrev pub precedence_of : CodeRun → ℕ
precedence_of run = 2 ^ 35 * (3 - place_of run.first.rank) + 2 ^ 33 * (4 - length_of run.first.code.len) + (2 ^ 32 + run.range.start - run.first.code.number)

-- the higher the lateness of a run, the later the codes that the run gives
abbrev pub lateness_of : CodeRun → ℕ
lateness_of run = 2 ^ 33 * length_of run.first.code.len + 2 ^ 32 + run.first.code.number - run.range.start
