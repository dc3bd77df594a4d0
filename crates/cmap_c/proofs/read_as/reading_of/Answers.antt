use Rattle.std.proofs.Common.{◌≡◌, ℕ, List, Option, Some, None, subst}
use Rattle.cmap_values.specs.Only.{IsOnly}
use Rattle.cmap_values.specs.Outcomes.{Finds}
use Rattle.cmap_values.specs.declared.fault.Stop.{Stop}
use Rattle.cmap_load.specs.declared.refusal.Cause.TheVariants.{Malformed}
use Rattle.cmap_lint.specs.PartsRead.{IsReadAs}
use Rattle.cmap_lint.specs.declared.read_as.ReadAs.{ReadAs}
use Rattle.cmap_c.specs.Faults.{HasNumbers}
use Rattle.cmap_c.specs.Readings.{IsReading}
use Rattle.cmap_c.specs.declared.fault.FaultNumbers.{FaultNumbers}
use Rattle.cmap_c.proofs.read_as.reading_of.Goals as goal

same_stop : (stop other : Stop) → Malformed stop ≡ Malformed other → stop ≡ other
same_stop stop other is = cc

-- there is one fault with these numbers
of_stop : (numbers : FaultNumbers) (text : List ℕ) (stop : Stop) (found : Option ReadAs) → IsOnly (HasNumbers numbers) (Malformed stop)
    → Finds (IsReadAs text stop) (λ read. read) found → Finds (IsReading numbers text) (λ read. read) found
of_stop numbers text stop None only none = λ other read. none other (subst (λ s. IsReadAs text s other) (same_stop read.0 stop (only.alone (Malformed read.0) read.1)) read.2)
of_stop numbers text stop (Some found) only is = record {
  holds = (stop, only.holds, is.holds);
  alone = λ other read. is.alone other (subst (λ s. IsReadAs text s other) (same_stop read.0 stop (only.alone (Malformed read.0) read.1)) read.2);
}

pub returns-in_err-stop : goal.returns-in_err-stop
returns-in_err-stop c = rw c.from_residual.ensures (λ found read. c.in_err-stop.ensures (Malformed read.0) read.1)

pub returns-in-Malformed : goal.returns-in-Malformed
returns-in-Malformed c = of_stop c.args.fault.now c.args.text.now c.in-Malformed.stop c.of.result
    (subst (IsOnly (HasNumbers c.args.fault.now)) c.in-Malformed.is c.in_ok-stop.ensures) c.of.ensures
