use Rattle.std.proofs.Common.{◌∙◌}
use Rattle.std.proofs.lemmas.Result.{IfOk-from_err}
use Rattle.cmap_handles.proofs.shared.Shared.new.Goals as goal

pub returns-in_err-value : goal.returns-in_err-value
returns-in_err-value g c = IfOk-from_err _ _ c.from_residual.ensures.0

pub returns-in_err-new : goal.returns-in_err-new
returns-in_err-new g c = IfOk-from_err _ _ c.from_residual-in_err-new.ensures.0

pub returns : goal.returns
returns g c = c.in_ok-new.ensures.ok ∙ c.in_ok-value.ensures.ok
