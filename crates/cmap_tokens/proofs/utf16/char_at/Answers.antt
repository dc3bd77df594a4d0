use Rattle.std.proofs.Common.{◌≡◌, ◌+◌, ◌≤◌, [], ◌∷◌, ◌++◌, length, drop, arith, length-append}
use Rattle.std.specs.Char.Utf16.{utf16_chars, lone_unit_char}
use Rattle.std.proofs.lemmas.Option.{MatchOption-from_none}
use Rattle.std.proofs.lemmas.Grind.{common_steps}
use Rattle.cmap_tokens.specs.Texts.{all_some, characters}
use Rattle.cmap_tokens.proofs.TextsOfUnits.{lone_at, pair_at, pair_within}
use Rattle.cmap_tokens.proofs.utf16.char_at.Goals as goal
use Rattle.cmap_tokens.proofs.utf16.char_at.Goals.{After-from_u32}

alone : (c : After-from_u32) → let us = c.args.front.now ++ c.args.last ∷ [] in characters (drop c.args.index us) ≡ all_some (lone_unit_char c.unit_at-first.result ∷ utf16_chars (drop (c.args.index + 1) us))
alone c =
    let us = c.args.front.now ++ c.args.last ∷ [] in
    lone_at us c.args.index _ _ (omega (arith, c.requires, length-append c.args.front.now (c.args.last ∷ []))) c.unit_at-first.ensures c.unit_at.ensures c.in_default.ensures.value

pub returns-in-Some-clause-value : goal.returns-in-Some-clause-value
returns-in-Some-clause-value c =
    let us = c.args.front.now ++ c.args.last ∷ [] in
    pair_at us c.args.index _ _ _ (omega (arith, c.requires, length-append c.args.front.now (c.args.last ∷ []))) c.unit_at-first.ensures c.unit_at.ensures c.in-Some.ensures.value

pub returns-in_err-from_u32-clause-value : goal.returns-in_err-from_u32-clause-value
returns-in_err-from_u32-clause-value c = let lone = alone (goal.at.returns-in_err-from_u32-clause-value c).After-from_u32 in grind (arith, common_steps)

pub returns-clause-value : goal.returns-clause-value
returns-clause-value c = let lone = alone (goal.at.returns-clause-value c).After-from_u32 in grind (arith, common_steps)

pub returns-in-Some-clause-scalar : goal.returns-in-Some-clause-scalar
returns-in-Some-clause-scalar c = c.in-Some.ensures.scalar

pub returns-in_err-from_u32-clause-after : goal.returns-in_err-from_u32-clause-after
returns-in_err-from_u32-clause-after c = MatchOption-from_none _ _ c.from_residual.ensures

pub returns-in_err-from_u32-clause-scalar : goal.returns-in_err-from_u32-clause-scalar
returns-in_err-from_u32-clause-scalar c = MatchOption-from_none _ _ c.from_residual.ensures

within : (c : goal.In-Some) → c.args.index + 1 ≤ length c.args.front.now
within c =
    let us = c.args.front.now ++ c.args.last ∷ [] in
    omega (arith, pair_within us c.args.index c.unit_at-first.result _ _ c.unit_at.ensures c.in-Some.ensures.value, length-append c.args.front.now (c.args.last ∷ []))

pub overflow_add-result : goal.overflow_add-result
overflow_add-result c = omega (arith, within c)

pub returns-in-Some-clause-after : goal.returns-in-Some-clause-after
returns-in-Some-clause-after c = (omega arith, omega (arith, within c))
