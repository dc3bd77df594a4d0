use Rattle.std.proofs.Common.{◌∙◌, arith, inl, inr, refl}
use Rattle.cmap_values.proofs.Outcomes.{passed_on}
use Rattle.cmap_binary.proofs.Fronts.{gives_none, then_none, then_next}
use Rattle.cmap_binary.proofs.RawCids.{entry_only}
use Rattle.cmap_binary.proofs.entries.CidColumns.next_entry.Goals as goal

pub returns-in_err-range : goal.returns-in_err-range
returns-in_err-range c = passed_on _ _ _ c.from_residual.ensures.1 c.in_err-range.ensures.next.1 (λ reason is. (then_none _ _ is.0, inl is.1))

pub returns-in_default : goal.returns-in_default
returns-in_default c = (tt, (then_next _ c.in_ok-range.ensures.next.0 (then_none _ _ c.in_default.ensures), inr (_, _, c.in_ok-range.ensures.next.0.holds, inl (c.in_default.ensures, refl))))

pub returns-in_default-try_from : goal.returns-in_default-try_from
returns-in_default-try_from c =
    let range = c.in_ok-range.ensures.next.0 in
    let past = rw c.cid_of.ensures at c.in_default-try_from.ensures in
    (tt, (then_next _ range (then_next _ c.in-Some.ensures (gives_none past)), inr (_, _, range.holds, inr (_, _, c.in-Some.ensures.holds, (omega (arith, past), refl)))))

pub returns : goal.returns
returns c =
    let cid = c.in-Ok.ensures.1 ∙ c.cid_of.ensures in
    (entry_only _ _ _ _ _ _ _ _ c.in_ok-range.ensures.next.0 c.in-Some.ensures cid (omega (arith, c.in-Ok.ensures)) (omega (arith, c.from.ensures, c.from-2.ensures)), tt)
