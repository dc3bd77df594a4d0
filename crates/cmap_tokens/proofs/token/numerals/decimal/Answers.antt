use Rattle.std.proofs.Common.{◌≡◌, true, get_or, inl, inr, sym, ◌∙◌}
use Rattle.std.specs.Prelude.{◌⊎◌}
use Rattle.std.proofs.lemmas.Option.{MatchOption-from_none}
use Rattle.cmap_tokens.specs.Bytes.{is_regular}
use Rattle.cmap_tokens.proofs.Digits.{decimal_from, no_decimal, not_decimal}
use Rattle.cmap_tokens.proofs.token.numerals.decimal.Goals as goal
use Rattle.cmap_tokens.proofs.token.numerals.decimal.Goals.{then-len-eq0-via-then-len-eq0, then-len-eq0-via-else-len-eq0+then-is_regular}

pub returns-in_err-number : goal.returns-in_err-number
returns-in_err-number c = record { front = c.from_residual.ensures ∙ no_decimal c.args.text.now c.in_err-number.ensures; within = MatchOption-from_none _ _ c.from_residual.ensures }

pub returns-then-len-eq0 : goal.returns-then-len-eq0
returns-then-len-eq0 c =
    let fails : (c.in_ok-number.len ≡ 0) ⊎ (is_regular (get_or c.args.text.now c.in_ok-number.len 0) ≡ true) =
    elim c.then-len-eq0.branch [
      | then-len-eq0-via-then-len-eq0 w ↦ inl w.if-len-eq0.true
      | then-len-eq0-via-else-len-eq0+then-is_regular w ↦ inr (sym w.if-is_regular.ensures)
    ] in
    record { front = not_decimal c.args.text.now c.in_ok-number.number c.in_ok-number.len c.in_ok-number.ensures fails; within = tt }

pub returns : goal.returns
returns c =
    let (front, within) = decimal_from c.args.text.now c.in_ok-number.number c.in_ok-number.len c.in_ok-number.ensures c.if-len-eq0.false (sym c.if-is_regular.ensures) in
    record { front = front; within = within }
