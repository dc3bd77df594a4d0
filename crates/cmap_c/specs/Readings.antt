-- What the part at a fault is read as, where the fault is given by the numbers of the header.
use Rattle.std.specs.Prelude.{ℕ, List}
use Rattle.cmap_values.specs.declared.fault.Stop.{Stop}
use Rattle.cmap_load.specs.declared.refusal.Cause.TheVariants.{Malformed}
use Rattle.cmap_lint.specs.PartsRead.{IsReadAs}
use Rattle.cmap_lint.specs.declared.read_as.ReadAs.{ReadAs}
use Rattle.cmap_c.specs.Faults.{HasNumbers}
use Rattle.cmap_c.specs.declared.fault.FaultNumbers.{FaultNumbers}

-- the reading of the part at fault, for a malformed text whose fault has these numbers
abbrev pub IsReading : FaultNumbers → List ℕ → ReadAs → Type 0
IsReading numbers text found = (stop : Stop) × HasNumbers numbers (Malformed stop) × IsReadAs text stop found
