use Rattle.cmap_lint.proofs.PartsFound.{empty_from, leads_on}
use Rattle.cmap_lint.proofs.read_as.ends_in_empty_string.Goals as goal

pub returns-in-Some : goal.returns-in-Some
returns-in-Some c = (
  λ yes. empty_from _ _ _ c.in-Some.ensures c.without_blanks.ensures (c.ends_within_line.ensures.0 yes),
  λ end. c.ends_within_line.ensures.1 (leads_on _ _ _ c.in-Some.ensures c.without_blanks.ensures end),
)
