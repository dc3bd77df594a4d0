use Rattle.cmap_lint.proofs.PartsFound.{angle_found}
use Rattle.cmap_lint.proofs.read_as.before_empty_string.Goals as goal

pub returns-in_ok-without_last-in-None : goal.returns-in_ok-without_last-in-None
returns-in_ok-without_last-in-None c = angle_found c.without_last-in-None-2.result (λ before. before.now) c.args.bytes.now _ _ c.in_ok-without_last-in-None.ensures c.without_blanks.ensures c.without_last-in-None-2.ensures
