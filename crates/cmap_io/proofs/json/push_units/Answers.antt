use Rattle.cmap_io.specs.Json.{unit_escaped}
use Rattle.cmap_io.proofs.Adds.{adds_both, one_more_at}
use Rattle.cmap_io.proofs.json.push_units.Goals as goal

pub returns-in_err-push_unit-clause-printable : goal.returns-in_err-push_unit-clause-printable
returns-in_err-push_unit-clause-printable c = adds_both _ _ _ c.loop-unit.invariant.0 c.push_unit.ensures.printable

pub loop-unit-preserved : goal.loop-unit-preserved
loop-unit-preserved c = (
  adds_both _ _ _ c.loop-unit.invariant.0 c.push_unit.ensures.printable,
  one_more_at unit_escaped _ _ _ _ _ c.loop-unit-test.true c.loop-unit.invariant.1 c.in_ok-push_unit.ensures.escaped,
)
