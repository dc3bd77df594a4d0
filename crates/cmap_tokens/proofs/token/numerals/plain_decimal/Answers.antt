use Rattle.cmap_tokens.proofs.AfterBlank.{decimal_first}
use Rattle.cmap_tokens.proofs.token.numerals.plain_decimal.Goals as goal

pub returns-in-Some-clause-token : goal.returns-in-Some-clause-token
returns-in-Some-clause-token c = (decimal_first _ c.in-Some.number c.in-Some.len c.in-Some.ensures.front).0
