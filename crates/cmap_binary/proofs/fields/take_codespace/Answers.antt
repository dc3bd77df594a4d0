use Rattle.std.proofs.Common.{ℕ, List}
use Rattle.cmap_values.specs.CodeLengths.{IsCodeLength}
use Rattle.cmap_values.specs.Only.{HoldsOfNone}
use Rattle.cmap_binary.specs.Fronts.{CodeAt}
use Rattle.cmap_binary.proofs.Fronts.{gives, then_none, then_next, then_only}
use Rattle.cmap_binary.proofs.fields.take_codespace.Goals as goal

no_code : (width : ℕ) (text : List ℕ) → (IsCodeLength width → ⊥) → HoldsOfNone (CodeAt width text)
no_code width text none other is = none is.0

pub returns-in_err-width : goal.returns-in_err-width
returns-in_err-width c = rw c.from_residual.ensures (then_none _ _ c.in_err-width.ensures)

pub returns-in_err-len : goal.returns-in_err-len
returns-in_err-len c = rw c.from_residual-in_err-len.ensures (then_next _ c.in_ok-width.ensures (then_none _ _ (no_code _ _ c.in_err-len.ensures)))

pub returns-in_err-low : goal.returns-in_err-low
returns-in_err-low c = rw c.from_residual-in_err-low.ensures (then_next _ c.in_ok-width.ensures (then_none _ _ c.in_err-low.ensures))

pub returns-in_err-high : goal.returns-in_err-high
returns-in_err-high c = rw c.from_residual-in_err-high.ensures (then_next _ c.in_ok-width.ensures (then_next _ c.in_ok-low.ensures (then_none _ _ c.in_err-high.ensures)))

pub returns : goal.returns
returns c = rw c.in_ok-len.ensures.1 (then_only _ c.in_ok-width.ensures (then_only _ c.in_ok-low.ensures (then_only _ c.in_ok-high.ensures gives)))
