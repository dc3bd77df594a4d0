use Rattle.std.proofs.Common.{◌≡◌, ℕ, ◌+◌, ◌-◌, ◌<◌, ◌≤◌, zero, suc, List, [], ◌∷◌, ◌++◌, length, take, drop, Option, vec_len, vec_capacity, refl, sym, ap, ◌∙◌, arith, append-nil, append_assoc, length-drop}
use Rattle.std.specs.Option.{option_to_list}
use Rattle.std.proofs.lemmas.Bool.{eqb-true, eqb-false}
use Rattle.std.proofs.lemmas.List.{take_rest}
use Rattle.std.proofs.lemmas.Grind.{common_steps}
use Rattle.cmap_tokens.specs.TokenReading.{first_part, parts_value}
use Rattle.cmap_tokens.proofs.token.values.decode_text.Goals as goal

-- the loop over the parts of a body, of which at most n are left
value_step : (n : ℕ) (rest now out all : List ℕ) (part : Option ℕ × ℕ) → 0 < length rest → length rest ≤ n → part ≡ first_part rest → 0 < part.1 → out ≡ now ++ option_to_list part.0 → now ++ parts_value n rest ≡ all
    → (m : ℕ) × (length (take (length rest - part.1) (drop part.1 rest)) ≤ m) × (out ++ parts_value m (take (length rest - part.1) (drop part.1 rest)) ≡ all)
value_step zero rest now out all part more few is moves grown so_far = absurd (omega (arith, more, few))
value_step (suc n) rest now out all part more few is moves grown so_far =
    let next = take_rest rest part.1 in (
      n,
      omega (arith, few, moves, more, ap length next, length-drop part.1 rest),
      ap (λ r. out ++ parts_value n r) next
          ∙ ap (λ o. o ++ parts_value n (drop part.1 rest)) grown
          ∙ append_assoc now (option_to_list part.0) (parts_value n (drop part.1 rest))
          ∙ ap (λ (p : Option ℕ × ℕ). now ++ (option_to_list p.0 ++ parts_value n (drop p.1 rest))) is
          ∙ so_far,
    )

value_end : (n : ℕ) (rest : List ℕ) → length rest ≡ 0 → parts_value n rest ≡ []
unfolding first_part
value_end zero rest none = refl
value_end (suc n) [] none = value_end n [] none
value_end (suc n) (b ∷ rest) none = absurd (omega (arith, none))

pub loop-rest-preserved : goal.loop-rest-preserved
loop-rest-preserved c =
    let (n, few, so_far) = c.loop-rest.invariant.bytes in
    let step : (vec_len c.match-byte.out + length c.loop-rest.rest.now ≤ vec_capacity c.match-byte.out + c.first_part-byte.result.1) × (c.match-byte.out.items ≡ c.loop-rest.out.items ++ option_to_list c.first_part-byte.result.0) = grind (arith, common_steps) in
    record {
      room = grind (arith, common_steps);
      bytes = value_step n c.loop-rest.rest.now c.loop-rest.out.items c.match-byte.out.items _ c.first_part-byte.result (omega (arith, eqb-false _ 0 (sym c.is_empty.ensures ∙ c.loop-rest-test.true))) few c.first_part-byte.ensures.exact c.first_part-byte.ensures.moves step.1 so_far;
    }

pub returns : goal.returns
returns c =
    let (n, few, so_far) = c.loop-rest.invariant.bytes in
    sym (append-nil _) ∙ ap (λ rest. c.loop-rest.out.items ++ rest) (sym (value_end n c.loop-rest.rest.now (eqb-true _ 0 (sym c.is_empty.ensures ∙ c.loop-rest-test.false)))) ∙ so_far
