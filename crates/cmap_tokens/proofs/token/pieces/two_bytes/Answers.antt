use Rattle.std.proofs.Common.{take, drop, sym, ◌∙◌, arith, length-take}
use Rattle.std.proofs.lemmas.Bool.{both_ways}
use Rattle.std.proofs.lemmas.Option.{MatchOption-from_none}
use Rattle.cmap_tokens.proofs.Digits.{Written, written}
use Rattle.cmap_tokens.proofs.SpacedStrings.{not_two_bytes, short_text, two_bytes_are}
use Rattle.cmap_tokens.proofs.token.pieces.two_bytes.Goals as goal
use Rattle.cmap_tokens.proofs.token.pieces.two_bytes.Goals.{In_ok-hex_number-in-60}

read : (c : In_ok-hex_number-in-60) → Written 16 4 (take 4 (drop 2 c.args.text.now)) c.in_ok-hex_number-in-60.field-0
read c =
    let digits = take 4 (drop 2 c.args.text.now) in
    written 16 4 digits _ (omega arith) (omega (arith, length-take 4 (drop 2 c.args.text.now))) (sym c.in_ok-hex_number-in-60.ensures)

pub overflow_cast-result : goal.overflow_cast-result
overflow_cast-result c = omega (arith, (read c).small)

pub returns-in_ok-hex_number-in-60-clause-front : goal.returns-in_ok-hex_number-in-60-clause-front
returns-in_ok-hex_number-in-60-clause-front c = sym (two_bytes_are c.args.text.now (omega arith) (omega arith) (sym c.if-is_white.ensures) ∙ (read c).value)

pub returns-in_err-hex_number-in-60 : goal.returns-in_err-hex_number-in-60
returns-in_err-hex_number-in-60 c = record {
  front = c.from_residual.ensures ∙ c.in_err-hex_number-in-60.ensures ∙ sym (two_bytes_are c.args.text.now (omega arith) (omega arith) (sym c.if-is_white.ensures));
  within = MatchOption-from_none _ _ c.from_residual.ensures;
}

pub returns-in_default : goal.returns-in_default
returns-in_default c = record { front = sym (short_text _ c.in_default.len_below); within = tt }

pub returns-in_default-2 : goal.returns-in_default-2
returns-in_default-2 c = record { front = not_two_bytes c.args.text.now (λ first last white. both_ways _ (sym c.if-is_white.ensures) white); within = tt }

pub returns-in_default-3 : goal.returns-in_default-3
returns-in_default-3 c = record { front = not_two_bytes c.args.text.now (λ first last white. omega (arith, first, last)); within = tt }

pub returns-in_default-4 : goal.returns-in_default-4
returns-in_default-4 c = record { front = not_two_bytes c.args.text.now (λ first last white. omega (arith, first, last)); within = tt }
