-- The faults of a file that is read past them.
use Rattle.std.specs.Prelude.{ℕ, ◌≤◌, List, [], ◌∷◌}
use Rattle.cmap_values.specs.declared.fault.Stop.{Stop}

-- the offsets ascend, from low to high
abbrev pub Ascend : ℕ → List Stop → ℕ → Type 0
Ascend low [] high = low ≤ high
Ascend low (stop ∷ stops) high = (low ≤ stop.offset) × Ascend stop.offset stops high
