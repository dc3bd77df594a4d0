use Rattle.std.proofs.Common.{◌≡◌, ◌+◌, ◌-◌, ◌/◌, ◌<◌, ◌^◌, length, true≢false, sym, ap, ◌∙◌, arith}
use Rattle.std.proofs.lemmas.Bool.Decides.{nat_tests, Decides-eqb}
use Rattle.std.proofs.lemmas.Slice.Eq.{slice_eq-Decides}
use Rattle.cmap_edit.proofs.TextUnits.{from_shifted, last_of, shifted_from}
use Rattle.cmap_edit.proofs.tidy.texts.count_on.Goals as goal
use Rattle.cmap_edit.proofs.tidy.texts.count_on.Goals.{then-from, else-from}

pub returns-then-unit-later_unit : goal.returns-then-unit-later_unit
returns-then-unit-later_unit c =
    let units = c.args.units.now in let later = c.args.later.now in
    let front = c.in-Some.front.now in let later_front = c.in-Some-split_last.later_front.now in
    let unit = c.in-Some.unit.now in let later_unit = c.in-Some-split_last.later_unit.now in
    let is = c.in-Some.ensures.cases in let later_is = c.in-Some-split_last.ensures.cases in
    let same = slice_eq-Decides Decides-eqb front later_front c.eq.result c.eq.ensures in
    let sum : unit + c.args.offset ≡ later_unit = elim c.if-from.branch [ then-from w ↦ omega arith | else-from w ↦ absurd (grind (arith, nat_tests)) ] in
    let row : unit / 256 ≡ later_unit / 256 = elim c.if-from.branch [ then-from w ↦ grind (arith, nat_tests) | else-from w ↦ absurd (grind (arith, nat_tests)) ] in
    let last = last_of units front unit is.0 in let later_last = last_of later later_front later_unit later_is.0 in
    let small : later_unit < 2 ^ 16 = omega (arith, c.type_inv.later (length later - 1), later_last) in (
      λ yes. (shifted_from units later front later_front unit later_unit c.args.offset is.0 later_is.0 sum small (same.0 yes), ap (λ u. u / 256) last ∙ row ∙ sym (ap (λ u. u / 256) later_last)),
      λ one. same.1 (from_shifted units later front later_front unit later_unit c.args.offset is.0 later_is.0 one.0).1,
    )

pub returns-else-unit-later_unit : goal.returns-else-unit-later_unit
returns-else-unit-later_unit c =
    let units = c.args.units.now in let later = c.args.later.now in
    let front = c.in-Some.front.now in let later_front = c.in-Some-split_last.later_front.now in
    let unit = c.in-Some.unit.now in let later_unit = c.in-Some-split_last.later_unit.now in
    let is = c.in-Some.ensures.cases in let later_is = c.in-Some-split_last.ensures.cases in (
      λ yes. absurd (true≢false (sym yes ∙ c.if-unit-later_unit.false)),
      λ one.
          let (sum, fronts) = from_shifted units later front later_front unit later_unit c.args.offset is.0 later_is.0 one.0 in
          let last = last_of units front unit is.0 in let later_last = last_of later later_front later_unit later_is.0 in
          let row : unit / 256 ≡ later_unit / 256 = sym (ap (λ u. u / 256) last) ∙ one.1 ∙ ap (λ u. u / 256) later_last in
          absurd (elim c.if-from.branch [ then-from w ↦ grind (arith, nat_tests) | else-from w ↦ w.if-from.false (omega arith) ]),
    )
