-- Codes by how well they stand for a text, and the first of them.
use Rattle.std.specs.Prelude.{◌≡◌, ℕ, ◌+◌, ◌<◌, ◌⊎◌, List, Option, MatchOption}
use Rattle.cmap_encode.specs.Codes.{code_bytes}
use Rattle.cmap_encode.specs.Strings.{IsNotAfter}
use Rattle.cmap_encode.specs.declared.code.Code.{Code}
use Rattle.cmap_encode.specs.declared.rank.Rank.{Rank}
use Rattle.cmap_encode.specs.declared.rank.Rank.TheVariants.{Stated, OwnForm, Canonical, Collection}
use Rattle.cmap_encode.specs.declared.rank.Ranked.{Ranked}

-- the bytes of a code, with a rank
pub record Candidate : Type 0 where
  pub bytes : List ℕ
  pub rank : Rank

abbrev pub candidate_of : Ranked → Candidate
candidate_of ranked = record { bytes = code_bytes ranked.code; rank = ranked.rank }

-- the code with another rank
abbrev pub as_ranked : Rank → Ranked → Candidate
as_ranked rank ranked = record { bytes = code_bytes ranked.code; rank = rank }

-- the best rank has the place 0
abbrev pub place_of : Rank → ℕ
place_of Stated = 0
place_of OwnForm = 1
place_of Canonical = 2
place_of Collection = 3

-- the first candidate has a better rank than the second, or the same rank and bytes that come no later
abbrev pub IsNoLater : Candidate → Candidate → Type 0
IsNoLater candidate other = (place_of candidate.rank < place_of other.rank) ⊎ ((place_of candidate.rank ≡ place_of other.rank) × IsNotAfter candidate.bytes other.bytes)

-- the candidate that comes before each of these candidates; or there are none
abbrev pub IsFirstBy : (Candidate → Candidate → Type 0) → (Candidate → Type 0) → Option Candidate → Type 0
IsFirstBy IsBefore Among found = MatchOption found
    ((candidate : Candidate) → Among candidate → ⊥)
    (λ first. Among first × ((other : Candidate) → Among other → IsBefore first other))

-- by rank, then by bytes
abbrev pub IsFirstAmong : (Candidate → Type 0) → Option Candidate → Type 0
IsFirstAmong Among found = IsFirstBy IsNoLater Among found

-- the code that comes count codes after this one
abbrev pub code_after : ℕ → Code → Code
code_after count code = record { number = code.number + count; len = code.len }

-- with the same rank
abbrev pub ranked_after : ℕ → Ranked → Ranked
ranked_after count ranked = record { code = code_after count ranked.code; rank = ranked.rank }
