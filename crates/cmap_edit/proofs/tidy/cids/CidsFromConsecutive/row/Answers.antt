use Rattle.std.proofs.Common.{◌≡◌, ◌+◌, ◌-◌, ◌<◌, ◌^◌, ap, ◌∙◌, refl, sym, subst, arith}
use Rattle.cmap_values.specs.Files.{CidEntry}
use Rattle.cmap_edit.proofs.tidy.cids.CidsFromConsecutive.row.Goals as goal

pub returns : goal.returns
returns g c =
    let kind = g.K.Counting.kind in let is = g.met.K.Counting.is_kind in
    let cid = c.args.self.now.cid in let offset = c.args.offset in let start = c.args.start in let last = c.args.last in let end = c.row_end.result in
    let within = c.row_end.ensures.within in
    let below : kind.moved cid offset ≡ cid + c.step.result = c.step.ensures cid in
    let fits : kind.moved (kind.moved cid offset) (end - start) < 2 ^ 32 =
    omega (arith, is.twice cid offset (end - start), is.grows cid (offset + (end - start)) (offset + (last - start)) (omega (arith, within)), c.requires.fits) in
    let row : CidEntry = record { start = start; end = end; cid = cid + c.step.result } in
    record {
      is_row = is.row row (within.0, c.row_end.ensures.row, omega arith) (subst (λ cid. kind.moved cid (end - start) < 2 ^ 32) below fits);
      spans = refl;
      starts = refl;
      filled = within.0;
      ends = within.1;
      answers = λ code from to.
          let same : kind.moved (cid + c.step.result) (code - start) ≡ kind.moved cid (offset + (code - start)) = ap (λ cid. kind.moved cid (code - start)) (sym below) ∙ is.twice cid offset (code - start) in
          is.given row code (omega (arith, same, is.grows cid (offset + (code - start)) (offset + (last - start)) (omega (arith, within, to)), c.requires.fits)) ∙ ap kind.told same;
    }
