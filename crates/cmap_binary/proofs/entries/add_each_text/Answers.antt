use Rattle.std.proofs.Common.{arith, inl, inr, refl}
use Rattle.cmap_values.proofs.Outcomes.{passed_on}
use Rattle.cmap_binary.proofs.Fronts.{gives, then_none, then_next, then_only}
use Rattle.cmap_binary.specs.BundleSeen.{tables_seen}
use Rattle.cmap_binary.specs.WrongSegments.{WrongBfEntry}
use Rattle.cmap_binary.proofs.RowsAdded.{adds_start, adds_more, adds_wrong, adds_end}
use Rattle.cmap_binary.proofs.entries.add_each_text.Goals as goal

pub loop-init : goal.loop-init
loop-init c = adds_start _ _ _ _ _

pub returns-in_err-range : goal.returns-in_err-range
returns-in_err-range c =
    passed_on _ _ _ c.from_residual.ensures.1 c.in_err-range.ensures.next.1 (λ reason is. adds_wrong c.loop.invariant (WrongBfEntry (tables_seen c.args.tables.now) c.args.fixed) reason (omega arith) (then_none _ _ is.0) (inl is.1))

pub returns-in_err-units : goal.returns-in_err-units
returns-in_err-units c =
    passed_on _ _ _ c.from_residual-in_err-units.ensures.1 c.in_err-units.ensures.1
    (λ reason is. adds_wrong c.loop.invariant (WrongBfEntry (tables_seen c.args.tables.now) c.args.fixed) reason (omega arith) (then_next _ c.in_ok-range.ensures.next.0 (then_none _ _ is.0)) (inr (_, _, c.in_ok-range.ensures.next.0.holds, is)))

pub loop-preserved : goal.loop-preserved
loop-preserved c =
    adds_more c.loop.invariant _ (omega arith) (then_only _ c.in_ok-range.ensures.next.0 (then_only _ c.in_ok-units.ensures.0 gives))
    (rw c.in_ok-add_bf.ensures.added refl)

pub returns : goal.returns
returns c =
    let has = c.loop.invariant in
    (record { entries = has.entries; end = _; only = adds_end has (omega arith); says = has.says }, tt)
