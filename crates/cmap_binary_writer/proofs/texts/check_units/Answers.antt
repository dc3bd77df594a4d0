use Rattle.std.proofs.Common.{◌<◌, ◌≤◌, ◌^◌, length, refl, subst, sym, arith}
use Rattle.std.specs.List.{All}
use Rattle.std.proofs.lemmas.List.{take_all}
use Rattle.std.proofs.lemmas.List.Elements.{All-map, All-more, All-nil}
use Rattle.cmap_values.specs.DeclarationsSeen.{bf_entry_seen}
use Rattle.cmap_values.specs.UnitsSeen.{units_seen}
use Rattle.cmap_values.specs.declared.declarations.BfRange.{BfRange}
use Rattle.cmap_binary_writer.proofs.texts.check_units.Goals as goal

pub returns-clause-counted : goal.returns-clause-counted
returns-clause-counted c =
    let ranges = c.args.ranges.now in
    All-map (λ e. length e.units < 2 ^ 8) bf_entry_seen ranges (subst (All (λ e. length (units_seen e.units) < 2 ^ 8)) (take_all c.loop-range.range-index ranges c.loop-range-test.false) c.loop-range.invariant)

pub loop-range-init : goal.loop-range-init
loop-range-init c = All-nil (λ (e : BfRange). length (units_seen e.units) < 2 ^ 8)

pub loop-range-preserved : goal.loop-range-preserved
loop-range-preserved c = All-more (λ (e : BfRange). length (units_seen e.units) < 2 ^ 8) c.args.ranges.now c.loop-range.range-index c.range-item.result c.loop-range-test.true c.loop-range.invariant (subst (λ (e : BfRange). length (units_seen e.units) < 2 ^ 8) c.range-item.is (subst (λ units. length units < 2 ^ 8) c.as_slice.ensures (omega arith)))

pub returns-then-as_slice-gt-MOST_UNITS-clause-err : goal.returns-then-as_slice-gt-MOST_UNITS-clause-err
returns-then-as_slice-gt-MOST_UNITS-clause-err c = (c.loop-range.range-index, c.range-item.result, c.loop-range-test.true, sym c.range-item.is, (refl, subst (λ units. 2 ^ 8 ≤ length units) c.as_slice.ensures c.if-as_slice-gt-MOST_UNITS.true))
