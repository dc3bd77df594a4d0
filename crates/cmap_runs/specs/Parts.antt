-- Private aid: the rests of parts of a list of declarations.
use Rattle.std.specs.Prelude.{ℕ, ◌-◌, ◌≤◌, List, ◌∷◌, All, sum_by}
use Rattle.cmap_runs.specs.declared.runs.indices.Part.{Part}
use Rattle.cmap_runs.specs.declared.runs.indices.Parts.{Parts}

-- how many declarations are left in the parts
abbrev pub left_of : List Part → ℕ
left_of parts = sum_by (λ part. part.end - part.next) parts

-- the parts lie in a list of `count` declarations, and no more than `count` declarations are left in them
pub record AreLeft (parts : List Part) (count : ℕ) : Type 0 where
  pub each : All (λ part. (part.next ≤ part.end) × (part.end ≤ count)) parts
  pub few : left_of parts ≤ count

abbrev pub all_parts : Parts → List Part
all_parts parts = parts.first ∷ parts.others.items
