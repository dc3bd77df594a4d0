use Rattle.std.proofs.Common.{length, ap, subst, arith}
use Rattle.std.proofs.lemmas.Result.{IfOk-from_err}
use Rattle.cmap_binary_writer.specs.Written.{Appends, IsSized}
use Rattle.cmap_binary_writer.proofs.ObstaclesMet.{too_long}
use Rattle.cmap_values.proofs.Outcomes.{memory_on}
use Rattle.cmap_binary_writer.proofs.columns.push_column.Goals as goal

pub returns-clause-written : goal.returns-clause-written
returns-clause-written c =
    let text = c.in-Some.text.items in
    let made = rw c.in-Some.is at c.in_ok-text.ensures in
    let (bytes, appended, sized) = subst (λ p. Appends c.args.out.now.items c.push_sized.new.out.items (IsSized p)) c.deref.ensures.value c.in_ok-push_sized.ensures.written in
    (bytes, appended, (text, sized, made.0, made.2))

pub returns-in_err-push_sized-clause-err : goal.returns-in_err-push_sized-clause-err
returns-in_err-push_sized-clause-err c = too_long _ _ _ _ c.from_residual-in_err-push_sized.ensures.1 c.in_err-push_sized.ensures.err (λ long. omega (arith, long, ap length c.deref.ensures.value, (rw c.in-Some.is at c.in_ok-text.ensures).1))

pub returns-in_err-text-clause-err : goal.returns-in_err-text-clause-err
returns-in_err-text-clause-err c = memory_on _ _ c.from_residual.ensures.1

pub returns-in_err-text-clause-written : goal.returns-in_err-text-clause-written
returns-in_err-text-clause-written c = IfOk-from_err _ _ c.from_residual.ensures.0

pub returns-in_err-push_sized-clause-written : goal.returns-in_err-push_sized-clause-written
returns-in_err-push_sized-clause-written c = IfOk-from_err _ _ c.from_residual-in_err-push_sized.ensures.0

pub returns-in_err-text-clause-len : goal.returns-in_err-text-clause-len
returns-in_err-text-clause-len c = IfOk-from_err _ _ c.from_residual.ensures.0

pub returns-in_err-push_sized-clause-len : goal.returns-in_err-push_sized-clause-len
returns-in_err-push_sized-clause-len c = IfOk-from_err _ _ c.from_residual-in_err-push_sized.ensures.0

pub returns-clause-len : goal.returns-clause-len
returns-clause-len c = omega (arith, c.in_ok-push_sized.ensures.len, ap length c.deref.ensures.value, (rw c.in-Some.is at c.in_ok-text.ensures).1)
