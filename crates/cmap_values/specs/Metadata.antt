-- What a CMap file states about itself.
use Rattle.std.specs.Prelude.{ℕ, ℤ, List, ◌==◌, Option, Some, None, if◌then◌else◌}
use Rattle.cmap_values.specs.Names.{Family}

-- the writing mode
pub data Mode : Type 0 where
  horizontal : Mode
  vertical : Mode

pub record Collection : Type 0 where
  pub family : Family
  pub supplement : ℤ

-- what a file states about itself
pub record FileMetadata : Type 0 where
  pub collection : Option Collection
  pub name : Option (List ℕ)
  pub mode : Option Mode

-- 0 and 1 number the writing modes
abbrev pub mode_numbered : ℕ → Option Mode
mode_numbered n = if n == 0 then Some horizontal else if n == 1 then Some vertical else None
