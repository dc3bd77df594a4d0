use Rattle.std.proofs.Common.{arith, inl, inr, refl}
use Rattle.cmap_values.specs.declared.fault.Reason.TheVariants.{Entry}
use Rattle.cmap_values.specs.declared.fault.Segment.TheVariants.{Notdefs}
use Rattle.cmap_binary.specs.BinaryFiles.{NotdefAt}
use Rattle.cmap_binary.specs.WrongSegments.{Misses}
use Rattle.cmap_binary.proofs.Fronts.{gives, row_start, row_wrong, then_none, then_next, then_only}
use Rattle.cmap_binary.proofs.Reading.{made_none, made_only}
use Rattle.cmap_binary.proofs.RowsAdded.{adds_none, adds_start, adds_more, adds_wrong, adds_end}
use Rattle.cmap_binary.proofs.fields.add_notdefs.Goals as goal

pub returns-in_default : goal.returns-in_default
returns-in_default c = (tt, (made_none (then_none _ _ c.in_default.ensures), inl (c.in_default.ensures, refl)))

pub returns-in_default-take_u16 : goal.returns-in_default-take_u16
returns-in_default-take_u16 c = (tt, (made_none (then_next _ c.in-Some.ensures (then_none _ _ c.in_default-take_u16.ensures)), inr (_, _, c.in-Some.ensures.holds, inl (c.in_default-take_u16.ensures, refl))))

pub returns-then-count-eq0 : goal.returns-then-count-eq0
returns-then-count-eq0 c =
    let count = rw c.if-count-eq0.true at c.in-Some-take_u16.ensures in
    (record { declared = _; only = made_only (then_only _ c.in-Some.ensures (then_only _ count (then_only _ gives gives))); says = adds_none _ }, tt)

pub returns-in_default-of : goal.returns-in_default-of
returns-in_default-of c =
    let none = row_wrong (NotdefAt c.in-Some.width) _ c.take_u16.new.text.now _ _ _ (row_start _ _ _) (omega arith) (λ other (start, mid, code, more). c.in_default-of.ensures code.0) in (
      tt,
      (
        made_none (then_next _ c.in-Some.ensures (then_next _ c.in-Some-take_u16.ensures (then_none _ _ none))),
        inr (_, _, c.in-Some.ensures.holds, inr (_, _, c.in-Some-take_u16.ensures.holds, (omega arith, inl (c.in_default-of.ensures, refl)))),
      ),
    )

pub loop-init : goal.loop-init
loop-init c = adds_start _ _ _ _ _

pub returns-in_default-take_notdef : goal.returns-in_default-take_notdef
returns-in_default-take_notdef c =
    let (none, is) = adds_wrong c.loop.invariant (λ rest. Misses (NotdefAt c.in-Some.width rest) (Entry Notdefs)) _ (omega arith) c.in_default-take_notdef.ensures (c.in_default-take_notdef.ensures, refl) in (
      tt,
      (
        made_none (then_next _ c.in-Some.ensures (then_next _ c.in-Some-take_u16.ensures (then_none _ _ none))),
        inr (_, _, c.in-Some.ensures.holds, inr (_, _, c.in-Some-take_u16.ensures.holds, (omega arith, inr (c.in-Some-of.ensures.0, is)))),
      ),
    )

pub loop-preserved : goal.loop-preserved
loop-preserved c = adds_more c.loop.invariant _ (omega arith) c.in-Some-take_notdef.ensures (rw (c.in_ok-add_notdef.ensures.added, c.in-Some-of.ensures.1) refl)

pub returns : goal.returns
returns c =
    let has = c.loop.invariant in
    (record { declared = _; only = made_only (then_only _ c.in-Some.ensures (then_only _ c.in-Some-take_u16.ensures (then_only _ (adds_end has (omega arith)) gives))); says = has.says }, tt)
