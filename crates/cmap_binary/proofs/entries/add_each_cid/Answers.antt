use Rattle.std.proofs.Common.{refl, arith}
use Rattle.cmap_values.proofs.Outcomes.{passed_on}
use Rattle.cmap_binary.specs.BundleSeen.{tables_seen}
use Rattle.cmap_binary.specs.WrongSegments.{WrongCidEntry}
use Rattle.cmap_binary.proofs.RowsAdded.{adds_start, adds_more, adds_wrong, adds_end}
use Rattle.cmap_binary.proofs.entries.add_each_cid.Goals as goal

pub loop-init : goal.loop-init
loop-init c = adds_start _ _ _ _ _

pub returns-in_err-range : goal.returns-in_err-range
returns-in_err-range c =
    passed_on _ _ _ c.from_residual.ensures.1 c.in_err-range.ensures.1 (λ reason is. adds_wrong c.loop.invariant (WrongCidEntry (tables_seen c.args.tables.now)) reason (omega arith) is.0 is.1)

pub loop-preserved : goal.loop-preserved
loop-preserved c = adds_more c.loop.invariant _ (omega arith) c.in_ok-range.ensures.0 (rw c.in_ok-add_cid.ensures.added refl)

pub returns : goal.returns
returns c =
    let has = c.loop.invariant in
    (record { entries = has.entries; end = _; only = adds_end has (omega arith); says = has.says }, tt)
