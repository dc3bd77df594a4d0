use Rattle.std.proofs.Common.{arith, inl, inr, refl}
use Rattle.cmap_binary.proofs.Fronts.{gives_if, gives_none, then_none, then_next, then_only}
use Rattle.cmap_binary.proofs.columns.Columns.next_range.Goals as goal

pub returns-in_default-clause-next : goal.returns-in_default-clause-next
returns-in_default-clause-next c = (tt, (then_none _ _ c.in_default.ensures, inl (c.in_default.ensures, refl)))

pub returns-in_default-next_width-clause-next : goal.returns-in_default-next_width-clause-next
returns-in_default-next_width-clause-next c = (tt, (then_next _ c.in-Some.ensures (then_none _ _ c.in_default-next_width.ensures), inr (_, _, c.in-Some.ensures.holds, inl (c.in_default-next_width.ensures, refl))))

pub returns-in_default-range_after-clause-next : goal.returns-in_default-range_after-clause-next
returns-in_default-range_after-clause-next c =
    let past = rw c.in_default-range_after.is at c.range_after.ensures in (
      tt,
      (
        then_next _ c.in-Some.ensures (then_next _ c.in-Some-next_width.ensures (gives_none (λ small. omega (arith, past, small)))),
        inr (_, _, c.in-Some.ensures.holds, inr (_, _, c.in-Some-next_width.ensures.holds, (omega (arith, past), refl))),
      ),
    )

pub returns-clause-next : goal.returns-clause-next
returns-clause-next c =
    let range = rw c.in-Some-range_after.is at c.range_after.ensures in (
      rw (c.from.ensures, range.0, range.1)
          (then_only _ c.in-Some.ensures (then_only _ c.in-Some-next_width.ensures (gives_if (omega (arith, range.1, range.2))))),
      tt,
    )
