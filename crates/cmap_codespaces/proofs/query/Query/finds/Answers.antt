use Rattle.std.proofs.Common.{arith}
use Rattle.cmap_codespaces.proofs.RowBits.{any_bit}
use Rattle.cmap_codespaces.proofs.query.Query.finds.Goals as goal

pub returns : goal.returns
returns c =
    let some = any_bit c.among.result (omega arith) in
    (λ yes. let (i, set) = some.0 yes in (i, (c.among.ensures i).0 set), λ found. some.1 (found.0, (c.among.ensures found.0).1 found.1))
