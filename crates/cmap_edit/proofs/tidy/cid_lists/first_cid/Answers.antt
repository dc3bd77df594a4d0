use Rattle.std.proofs.Common.{◌≡◌, ◌+◌, ◌-◌, ◌≤◌, ◌^◌, ap, arith}
use Rattle.cmap_values.specs.DeclarationsSeen.{cid_entry_seen}
use Rattle.cmap_edit.proofs.tidy.cid_lists.first_cid.Goals as goal

pub returns-in_err-checked_add : goal.returns-in_err-checked_add
returns-in_err-checked_add g c =
    let kind = g.K.Counting.kind in let is = g.met.K.Counting.is_kind in
    let e = cid_entry_seen c.args.declaration.now in let range = c.args.range.now in let from = range.start - e.start in let more = range.end - range.start in
    let sum : range.end - e.start ≡ from + more = omega arith in
    let first : kind.moved e.cid from ≡ c.in_ok-cid.cid = omega (arith, c.step.ensures e.cid, c.in_ok-cid.ensures) in
    let past : 2 ^ 32 ≤ kind.moved e.cid (range.end - e.start) =
    omega (arith, ap (kind.moved e.cid) sum, is.twice e.cid from more, ap (λ cid. kind.moved cid more) first, c.step-2.ensures c.in_ok-cid.cid, c.in_err-checked_add.ensures)
    in
    rw c.from_residual-in_err-checked_add.ensures (is.lost e range.end (omega arith) past)
