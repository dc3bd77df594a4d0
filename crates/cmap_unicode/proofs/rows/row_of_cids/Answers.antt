use Rattle.std.proofs.Common.{◌+◌, arith}
use Rattle.std.specs.Option.{option_copied}
use Rattle.cmap_unicode.proofs.RowsEnd.{counted_end}
use Rattle.cmap_unicode.proofs.rows.row_of_cids.Goals as goal

pub returns-in_ok-row-in-CountOn-clause-ends : goal.returns-in_ok-row-in-CountOn-clause-ends
returns-in_ok-row-in-CountOn-clause-ends c =
    let row = c.in_ok-row-in-CountOn in
    rw c.in-CountOn.is (counted_end (option_copied c.args.collection) c.in-CountOn.cid c.args.first c.args.stretch.last row.row.last (c.args.first + c.min.result) (omega (arith, c.requires)) row.ensures.texts.within (omega (arith, c.min.ensures)) row.ensures.longest)
