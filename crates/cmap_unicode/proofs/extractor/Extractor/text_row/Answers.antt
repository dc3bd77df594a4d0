use Rattle.std.proofs.Common.{◌-◌, arith}
use Rattle.cmap_values.specs.CodeLengths.{length_of}
use Rattle.cmap_unicode.specs.Characters.{font_of}
use Rattle.cmap_unicode.proofs.RowsEnd.{row_ends}
use Rattle.cmap_unicode.proofs.extractor.Extractor.text_row.Goals as goal

pub returns-clause-longest : goal.returns-clause-longest
returns-clause-longest c =
    let by_code = c.in_ok-by_code in let by_cid = c.in_ok-by_cid in
    row_ends (font_of c.args.self.now) (length_of c.args.len) c.args.first c.declared_stretch-cids.result by_code.by_code.last by_cid.by_cid.last c.min.result
    c.declared_stretch-cids.ensures (search arith) by_code.ensures.longest by_cid.ensures.ends (omega (arith, c.min.ensures))
