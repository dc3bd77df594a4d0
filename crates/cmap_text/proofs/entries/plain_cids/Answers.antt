use Rattle.std.proofs.Common.{sym, ap}
use Rattle.std.specs.Prelude.{Ok}
use Rattle.cmap_text.specs.TextSeen.{code_seen}
use Rattle.cmap_text.proofs.entries.plain_cids.Goals as goal

pub returns-in_err-start-in-Range : goal.returns-in_err-start-in-Range
returns-in_err-start-in-Range c = rw c.from_residual.ensures c.in_err-start-in-Range.ensures

pub returns-in_err-code-in-Single : goal.returns-in_err-code-in-Single
returns-in_err-code-in-Single c =
    rw c.from_residual-in_err-code-in-Single.ensures c.in_err-code-in-Single.ensures

pub returns-in_ok-start-in-Range : goal.returns-in_ok-start-in-Range
returns-in_ok-start-in-Range c =
    let found = c.in_ok-start-in-Range in
    let (low, high, first, second, reads, is, then, end_is, cid_is) = found.ensures in
    let made = ap (λ filed. Ok (filed, c.two_byte_range_and_cid.new.self)) (sym c.filed_range.ensures) in
    (low, code_seen found.start, first, reads, is, rw (c.in-Range.is, then, end_is, cid_is) made)

pub returns-in_ok-code-in-Single : goal.returns-in_ok-code-in-Single
returns-in_ok-code-in-Single c =
    let found = c.in_ok-code-in-Single in
    let (piece, between, reads, is, cid_is) = found.ensures in
    let made = ap (λ filed. Ok (filed, c.two_byte_code_and_cid.new.self)) (sym c.filed_range-in-Single.ensures) in
    (piece, code_seen found.code, between, reads, is, rw (c.in-Single.is, cid_is) made)
