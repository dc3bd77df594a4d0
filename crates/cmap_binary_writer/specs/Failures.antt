-- The reasons why nothing was written.
use Rattle.cmap_values.specs.declared.fault.Fault.{Fault}
use Rattle.cmap_values.specs.declared.fault.Fault.TheVariants.{Memory, Refused}
use Rattle.cmap_binary_writer.specs.declared.obstacle.Obstacle.{Obstacle}
use Rattle.cmap_binary_writer.specs.declared.obstacle.Obstacle.TheVariants.{TooLong}

-- the fault is `TooLong`, only where `long` holds, or that memory ran out
abbrev pub IsTooLongIf : Type 0 → Fault Obstacle → Type 0
IsTooLongIf long (Refused TooLong) = long
IsTooLongIf long (Refused other) = ⊥
IsTooLongIf long Memory = Unit {0}
