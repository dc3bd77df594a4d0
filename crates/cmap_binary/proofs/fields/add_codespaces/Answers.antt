use Rattle.std.proofs.Common.{arith, inl, inr, refl}
use Rattle.cmap_binary.specs.WrongSegments.{WrongCodespace}
use Rattle.cmap_binary.proofs.Fronts.{gives, then_none, then_next, then_only}
use Rattle.cmap_binary.proofs.Reading.{made_none, made_only}
use Rattle.cmap_binary.proofs.RowsAdded.{adds_start, adds_more, adds_wrong, adds_end}
use Rattle.cmap_binary.proofs.fields.add_codespaces.Goals as goal

pub returns-in_default : goal.returns-in_default
returns-in_default c = (tt, (made_none (then_none _ _ c.in_default.ensures), inl (c.in_default.ensures, refl)))

pub loop-init : goal.loop-init
loop-init c = adds_start _ _ _ _ _

pub returns-in_default-take_codespace : goal.returns-in_default-take_codespace
returns-in_default-take_codespace c =
    let (none, is) = adds_wrong c.loop.invariant WrongCodespace _ (omega arith) c.in_default-take_codespace.ensures (c.in_default-take_codespace.ensures, c.codespace_lack.ensures) in
    (tt, (made_none (then_next _ c.in-Some.ensures (then_none _ _ none)), inr (_, _, c.in-Some.ensures.holds, is)))

pub loop-preserved : goal.loop-preserved
loop-preserved c = adds_more c.loop.invariant _ (omega arith) c.in-Some-take_codespace.ensures (rw c.in_ok-add_codespace.ensures.added refl)

pub returns : goal.returns
returns c =
    let has = c.loop.invariant in
    (record { declared = _; only = made_only (then_only _ c.in-Some.ensures (then_only _ (adds_end has (omega arith)) gives)); says = has.says }, tt)
