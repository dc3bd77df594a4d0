-- Private aid: codespace ranges that match all bytes of a prefix.
use Rattle.std.specs.Prelude.{◌≡◌, ◌≤◌, MatchOption, Option, All, Any, ℕ, List, length}
use Rattle.cmap_values.specs.CodeLengths.{IsCodeLength}
use Rattle.cmap_values.specs.Files.{Codespace}
-- ranges by the bytes of their codes, and by bits
pub use Rattle.cmap_codespaces.specs.CodesWithin.{Begins, HasFront, IsAt, IsInsideRanges, IsLeast, lesser}
pub use Rattle.cmap_codespaces.specs.SpaceBits.{AreBlocks, AreFoundBy, AreGroups, AreRows, AreSet, EachRow, HasGroup, HasRange, HaveBits, HaveBitsOf, HaveRows, InRow, InRows, IsFound, IsFoundAmong, IsFoundAt, IsFoundWithin, IsInRow, IsInside, IsInsideWithin, IsSet, front_row, query_of, row_count, row_of_length, row_of_value, value_row_count}
use Rattle.cmap_layers.specs.StringCodes.{Matches}

-- the number of bytes in the shortest codes of the ranges that match all these bytes; None if no range does
abbrev pub IsShortestMatch : List Codespace → List ℕ → Option ℕ → Type 0
IsShortestMatch spaces front found = MatchOption found
    (All (λ space. Matches space front (length front) → ⊥) spaces)
    (λ len. IsCodeLength len × Any (λ space. Matches space front (length front) × (space.len ≡ len)) spaces × All (λ space. Matches space front (length front) → len ≤ space.len) spaces)
