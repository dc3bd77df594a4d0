-- ---- private aid: units of texts that are the same
use Rattle.std.specs.Prelude.{◌≡◌, ℕ, ◌+◌, ◌-◌, ◌<◌, List, length, slice_index, take}

-- both sides have units, and the units are equal when each offset is added to the last unit of its side
pub record AreAlike (units : List ℕ) (offset : ℕ) (others : List ℕ) (other_offset : ℕ) : Type 0 where
  pub some : 0 < length units
  pub some_too : 0 < length others
  pub fronts : take (length units - 1) units ≡ take (length others - 1) others
  pub lasts : slice_index units (length units - 1) + offset ≡ slice_index others (length others - 1) + other_offset
