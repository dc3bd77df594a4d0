use Rattle.std.proofs.Common.{◌≡◌, ◌∙◌, ◌+◌, ◌-◌, ◌≤◌, ◌^◌, inl, inr, ◌++◌, ◌∷◌, [], length, take, ap, subst, arith}
use Rattle.std.specs.Result.{IfOk}
use Rattle.std.proofs.lemmas.Bool.{cases_lt}
use Rattle.cmap_values.specs.UnitsSeen.{units_seen}
use Rattle.cmap_binary_writer.specs.TextParts.{IsShifted}
use Rattle.cmap_binary_writer.proofs.TextPartsSeen.{lost_units, raised_units}
use Rattle.cmap_binary_writer.proofs.text_parts.shifted.Goals as goal

pub returns-in-Ok : goal.returns-in-Ok
returns-in-Ok c =
    let units = c.as_slice.result.now in
    let sum : c.in-Ok.raised ≡ c.from.result + c.args.offset = c.in-Ok.ensures.1 ∙ ap (λ k. c.from.result + k) c.from-2.ensures in
    let is = subst (λ u. IfOk c.with_last.result (λ made. units_seen made ≡ take (length units - 1) units ++ u ∷ [])) sum c.with_last.ensures.is in
    subst (λ us. IfOk c.with_last.result (λ made. IsShifted us c.args.offset (units_seen made))) c.as_slice.ensures (raised_units units c.from.result c.args.offset (omega (arith, c.in-len1-up.len_at_least)) c.from.ensures c.with_last.result is c.with_last.ensures.small)

pub returns-in-Err : goal.returns-in-Err
returns-in-Err c =
    let units = c.as_slice.result.now in
    let past : 2 ^ 16 ≤ c.from.result + c.args.offset = elim (cases_lt (c.from.result + c.from-2.result) (2 ^ 16)) [
      | inl below ↦ absurd (c.in-Err.ensures below)
      | inr past ↦ omega (arith, past, c.from-2.ensures)
    ] in
    subst (λ us. IsShifted us c.args.offset []) c.as_slice.ensures (lost_units units c.from.result c.args.offset (omega (arith, c.in-len1-up.len_at_least)) c.from.ensures past)
