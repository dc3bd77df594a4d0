-- The obstacle to a table.
use Rattle.cmap_values.specs.declared.fault.Fault.{Fault}
use Rattle.cmap_values.specs.declared.fault.Fault.TheVariants.{Memory, Refused}
use Rattle.cmap_binary_writer.specs.declared.obstacle.Obstacle.{Obstacle}
use Rattle.cmap_binary_writer.specs.declared.obstacle.Obstacle.TheVariants.{NoWord}

-- a number has no code word only if this holds; a failure of memory has no condition, and there is no other obstacle
abbrev pub IsNoWordIf : Type 0 → Fault Obstacle → Type 0
IsNoWordIf holds (Refused NoWord) = holds
IsNoWordIf holds (Refused other) = ⊥
IsNoWordIf holds Memory = Unit {0}
