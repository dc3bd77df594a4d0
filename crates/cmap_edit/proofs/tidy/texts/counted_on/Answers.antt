use Rattle.std.proofs.Common.{◌≡◌, ◌+◌, ◌-◌, Some, length, set, sym, ap, ◌∙◌, subst, arith, true≢false}
use Rattle.std.specs.Vec.{vec_len}
use Rattle.std.proofs.lemmas.Result.{IfOk-weaker}
use Rattle.cmap_values.specs.UnitsSeen.{units_seen}
use Rattle.cmap_tokens.specs.Texts.{shifted}
use Rattle.cmap_edit.specs.Tidy.{last_unit}
use Rattle.cmap_edit.proofs.TextUnits.{last_is, shifted_set, shifted_zero}
use Rattle.cmap_edit.proofs.tidy.texts.counted_on.Goals as goal
use Rattle.cmap_edit.proofs.tidy.texts.counted_on.Goals.{in-Some, in_default}

pub returns : goal.returns
returns c =
    let units = c.args.units.now in
    let copied = c.in_ok-copy.ensures.items in
    let count = ap length copied in
    let made : shifted units c.args.offset ≡ Some c.match-last_mut.copy.items =
    elim c.match-last_mut.branch [
      | in-Some w ↦
          let last = w.in-Some.last.now in
          let is : last ≡ last_unit units = last_is c.in_ok-copy.copy.items units (vec_len c.in_ok-copy.copy - 1) last copied (omega (arith, count, c.in_ok-copy.copy.ok.0)) c.requires.some w.in-Some.ensures.value in
          subst (λ us. shifted units c.args.offset ≡ Some us) (sym (ap (λ v. v.items) w.copy-is ∙ ap (λ us. set us (vec_len c.in_ok-copy.copy - 1) (last + c.args.offset)) copied))
          (shifted_set units c.args.offset last (vec_len c.in_ok-copy.copy - 1) c.requires.some (omega (arith, count, c.in_ok-copy.copy.ok.0)) is (omega arith))
      | in_default w ↦ absurd (true≢false (sym (w.in_default.ensures.variant.1 (omega (arith, count, c.in_ok-copy.copy.ok.0)))))
    ]
    in
    IfOk-weaker c.from_slice-3.result (λ these. units_seen these ≡ c.as_slice.result.now) (λ these. shifted units c.args.offset ≡ Some (units_seen these))
    (λ these same. made ∙ ap (λ us. Some us) (sym (same ∙ c.as_slice.ensures.value))) c.from_slice-3.ensures.units

pub returns-then-offset-eq0 : goal.returns-then-offset-eq0
returns-then-offset-eq0 c =
    let units = c.args.units.now in
    let same : shifted units c.args.offset ≡ Some units = ap (shifted units) c.if-offset-eq0.true ∙ shifted_zero units c.requires.some (omega arith) in
    IfOk-weaker c.from_slice.result (λ these. units_seen these ≡ units) (λ these. shifted units c.args.offset ≡ Some (units_seen these)) (λ these is. same ∙ ap (λ us. Some us) (sym is)) c.from_slice.ensures.units
