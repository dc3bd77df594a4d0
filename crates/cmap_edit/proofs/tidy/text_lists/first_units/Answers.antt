use Rattle.std.proofs.Common.{◌≡◌, ◌+◌, ◌-◌, Some, ap, sym, ◌∙◌, arith}
use Rattle.cmap_tokens.specs.Texts.{shifted}
use Rattle.cmap_values.specs.UnitsSeen.{units_seen}
use Rattle.cmap_edit.specs.Tidy.{last_unit}
use Rattle.cmap_edit.proofs.TextUnits.{later_some, shifted_is, shifted_twice}
use Rattle.cmap_edit.proofs.tidy.text_lists.first_units.Goals as goal

pub returns : goal.returns
returns c =
    let units = units_seen c.args.declaration.now.units in let first = units_seen c.in_ok-first.first in
    let from = c.args.range.now.start in let start = c.args.declaration.now.range.start in
    let made : shifted units (from - start) ≡ Some first = sym (ap (λ us. shifted us (from - start)) c.as_slice-units.ensures) ∙ c.in_ok-first.ensures in
    let (front, same, small, is, last) = shifted_is units first (from - start) made in (
      later_some units first (from - start) made,
      omega (arith, ap last_unit c.as_slice-units.ensures),
      λ code after.
          let sum : code - start ≡ from - start + (code - from) = omega arith in
          ap (shifted units) sum ∙ shifted_twice units first (from - start) (code - from) made,
    )
