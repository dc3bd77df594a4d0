use Rattle.std.proofs.Common.{arith}
use Rattle.cmap_layers.proofs.UnitsOfTexts.{alike, are_units, no_unit, offset_by, offset_unlike, unlike}
use Rattle.cmap_layers.proofs.text_codes.offset_of.Goals as goal

pub returns-in_default : goal.returns-in_default
returns-in_default c = λ text offset units. no_unit c.args.begin.now c.args.units.now text offset (are_units c.args.begin.now (λ i. omega (arith, c.type_inv.begin i))) units (λ some some_too. omega (arith, c.in_default.len_below))

pub returns-in_default-units : goal.returns-in_default-units
returns-in_default-units c = λ text offset units. no_unit c.args.begin.now c.args.units.now text offset (are_units c.args.begin.now (λ i. omega (arith, c.type_inv.begin i))) units (λ some some_too. omega (arith, c.in_default-units.len_below))

pub returns-then-ne : goal.returns-then-ne
returns-then-ne c = λ text offset units. offset_unlike c.args.begin.now c.args.units.now text offset (omega arith) (omega arith) (λ i. omega (arith, c.type_inv.begin i)) (λ i. omega (arith, c.type_inv.units i)) units (unlike _ _ c.if-ne.ensures)

pub returns : goal.returns
returns c = λ text offset units. offset_by c.args.begin.now c.args.units.now text offset (omega arith) (omega arith) (λ i. omega (arith, c.type_inv.begin i)) (λ i. omega (arith, c.type_inv.units i)) units c.checked_sub.result (alike _ _ c.if-ne.ensures) c.checked_sub.ensures
