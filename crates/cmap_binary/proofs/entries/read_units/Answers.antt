use Rattle.cmap_binary.proofs.RowsAdded.{out_of_memory}
use Rattle.std.proofs.Common.{arith, refl}
use Rattle.cmap_binary.specs.Fronts.{FieldAt}
use Rattle.cmap_binary.proofs.Fronts.{row_start, row_more, row_wrong, row_end}
use Rattle.cmap_binary.proofs.entries.read_units.Goals as goal

pub loop-init : goal.loop-init
loop-init c = rw c.clear.ensures.items (row_start _ _ _)

pub loop-preserved : goal.loop-preserved
loop-preserved c = rw c.in_ok-push.ensures.items (row_more _ _ _ _ _ _ _ _ c.loop.invariant (omega arith) c.in-Some-take_u16.ensures)

pub returns : goal.returns
returns c = (rw (c.in_ok-units.ensures.units, c.deref.ensures.value) (row_end _ _ _ _ _ _ c.loop.invariant (omega arith)), tt)

pub returns-in_default : goal.returns-in_default
returns-in_default c = (tt, (row_wrong (FieldAt 2) c.args.count c.args.text.now.now 0 _ _ (row_start _ _ _) (omega arith) c.in_default.ensures, refl))

pub returns-in_default-take_u16 : goal.returns-in_default-take_u16
returns-in_default-take_u16 c = (tt, (row_wrong _ _ _ _ _ _ c.loop.invariant (omega arith) c.in_default-take_u16.ensures, refl))

pub returns-in_default-take_two : goal.returns-in_default-take_two
returns-in_default-take_two c = (tt, (rw c.if-count-eq2.true c.in_default-take_two.ensures, refl))

pub returns-in_err-push : goal.returns-in_err-push
returns-in_err-push c = out_of_memory _ _ c.from_residual.result c.from_residual.ensures.1

pub returns-in_err-units : goal.returns-in_err-units
returns-in_err-units c = out_of_memory _ _ c.from_residual-in_err-units.result c.from_residual-in_err-units.ensures.1
