use Rattle.std.proofs.lemmas.Result.{IfOk-from_err}
use Rattle.cmap_binary.proofs.owned_bundle.OwnedBundle.parse.Goals as goal

pub returns-in_err-bundle : goal.returns-in_err-bundle
returns-in_err-bundle c = IfOk-from_err _ _ c.from_residual.ensures.0

pub returns-in_err-files : goal.returns-in_err-files
returns-in_err-files c = IfOk-from_err _ _ c.from_residual-in_err-files.ensures.0
