use Rattle.std.proofs.Common.{◌≡◌, get_or, inl, inr, arith}
use Rattle.std.specs.Prelude.{◌⊎◌}
use Rattle.std.proofs.lemmas.Bool.{cases_eq, eqb-true}
use Rattle.std.proofs.lemmas.List.{get_or_past}
use Rattle.cmap_tokens.proofs.FirstBytes.{exponent_is, no_exponent}
use Rattle.cmap_tokens.proofs.token.numerals.is_exponent.Goals as goal

pub returns-in_default : goal.returns-in_default
returns-in_default c =
    let past : get_or c.args.text.now 0 0 ≡ 0 = get_or_past c.args.text.now 0 0 (omega arith) in no_exponent c.args.text.now (λ same. omega (arith, same, past)) (λ same. omega (arith, same, past))

pub returns-in_default-2 : goal.returns-in_default-2
returns-in_default-2 c = no_exponent c.args.text.now (λ same. grind (arith, same)) (λ same. grind (arith, same))

pub returns-in-101 : goal.returns-in-101
returns-in-101 c =
    let text = c.args.text.now in
    let begins : (get_or text 0 0 ≡ 101) ⊎ (get_or text 0 0 ≡ 69) = elim (cases_eq (get_or text 0 0) 101) [ inl small ↦ inl small | inr other ↦ inr (omega (arith, other, eqb-true)) ] in
    exponent_is _ text _ _ _ begins c.without_sign.ensures c.digits_number.ensures c.is_some.ensures
