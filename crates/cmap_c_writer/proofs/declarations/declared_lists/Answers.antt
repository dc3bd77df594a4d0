use Rattle.std.proofs.Common.{arith}
use Rattle.cmap_values.proofs.Outcomes.{passed_on}
use Rattle.cmap_c_writer.proofs.AllDeclared.{declared_at, none_at}
use Rattle.cmap_c_writer.proofs.declarations.declared_lists.Goals as goal

pub returns-in_err-add_to : goal.returns-in_err-add_to
returns-in_err-add_to c = passed_on _ _ _ c.from_residual.ensures.1 c.in_err-add_to.ensures.1 (λ _ none. none_at c.args.declarations.now c.loop-declaration.declaration-index _ (omega arith) none)

pub loop-declaration-preserved : goal.loop-declaration-preserved
loop-declaration-preserved c = declared_at c.args.declarations.now c.loop-declaration.declaration-index _ _ _ _ (omega arith) c.loop-declaration.invariant c.in_ok-add_to.ensures.0.1 c.in_ok-add_to.ensures.0.2
