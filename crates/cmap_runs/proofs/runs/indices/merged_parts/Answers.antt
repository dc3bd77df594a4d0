use Rattle.std.proofs.Common.{arith}
use Rattle.std.proofs.lemmas.List.{nil_from_length}
use Rattle.std.proofs.lemmas.Result.{IfOk-from_err}
use Rattle.cmap_runs.proofs.runs.indices.merged_parts.Goals as goal

pub returns-then-count-eq0 : goal.returns-then-count-eq0
returns-then-count-eq0 g c =
    let none = nil_from_length c.args.declarations.now (omega (arith, c.requires, c.if-count-eq0.true)) in
    rw none c.in_ok-none.ensures

pub returns-in-Some : goal.returns-in-Some
returns-in-Some g c = rw c.in-Some.is at c.in_ok-apart.ensures

pub returns-in-None : goal.returns-in-None
returns-in-None g c = c.merged_by_steps-in-None.ensures

pub returns-in_err-none : goal.returns-in_err-none
returns-in_err-none g c = IfOk-from_err _ _ c.from_residual.ensures.0

pub returns-in_err-apart : goal.returns-in_err-apart
returns-in_err-apart g c = IfOk-from_err _ _ c.from_residual-in_err-apart.ensures.0
