-- Why there is no table, by what another call says.
use Rattle.cmap_values.specs.declared.fault.Fault.{Fault}
use Rattle.cmap_values.specs.declared.fault.Fault.TheVariants.{Memory, Refused}
use Rattle.cmap_binary_writer.specs.declared.obstacle.Obstacle.{Obstacle}
use Rattle.cmap_binary_writer.specs.declared.obstacle.Obstacle.TheVariants.{NoWord}
use Rattle.cmap_bundle_maker.specs.WordsMissing.{IsNoWordIf}

pub IsNoWordIf-weaker : (P Q : Type 0) → (P → Q) → (fault : Fault Obstacle) → IsNoWordIf P fault → IsNoWordIf Q fault
IsNoWordIf-weaker P Q more (Refused NoWord) h = more h
IsNoWordIf-weaker P Q more (Refused other) h = absurd h
IsNoWordIf-weaker P Q more Memory h = tt
