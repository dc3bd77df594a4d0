use Rattle.cmap_queries.proofs.CodeArgumentParts.{split_of, numeral_fits}
use Rattle.cmap_queries.proofs.query.Query.parse.Goals as goal

pub returns-in_err-code-clause-none : goal.returns-in_err-code-clause-none
returns-in_err-code-clause-none c _ asked code spells =
    let split = split_of asked code _ _ c.split_once.ensures.cases spells in
    let parts = rw c.in_ok-name.was at split in
    c.in_err-code.ensures (rw parts.1 (numeral_fits asked code _ spells))
