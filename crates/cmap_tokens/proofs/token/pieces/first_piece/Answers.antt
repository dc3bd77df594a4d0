use Rattle.std.proofs.Common.{◌≡◌, ℕ, ◌<◌, Option, None, Some, true, false, get_or, length, inl, inr, refl, sym, ap, ◌∙◌, arith}
use Rattle.std.specs.Prelude.{◌⊎◌}
use Rattle.std.proofs.lemmas.Bool.{cases_eq, eqb-true, ltb-true}
use Rattle.std.proofs.lemmas.Bool.Decides.{nat_tests}
use Rattle.std.proofs.lemmas.List.{get_or_past, take_rest}
use Rattle.cmap_tokens.specs.Bytes.{is_regular}
use Rattle.cmap_tokens.specs.Tokens.{Token, is_bracket}
use Rattle.cmap_tokens.specs.TokenReading.{first_piece}
use Rattle.cmap_tokens.proofs.TokenPieces.{bracket_read, double_read, none_read, nothing_read, run_read, slash_read, string_read}
use Rattle.cmap_tokens.proofs.token.pieces.first_piece.Goals as goal
use Rattle.cmap_tokens.proofs.token.pieces.first_piece.Goals.{in-60+in-60-text-3, in-62+in-62-text-4, then-text-lt2+in-40-1, else-text-lt2+in-60+in_default-1, else-text-lt2+in-40-1, in_default-via-then-text-lt1, in_default-via-else-text-lt1+in-len1-up+else-is_regular, then-text-lt2+in_default-1, else-text-lt2+in-62+in_default-1, else-text-lt2+in_default-1}

both : (token other : Token) (len n : ℕ) → token ≡ other → len ≡ n → ◌≡◌ {A = Option (Token × ℕ)} (Some (token, len)) (Some (other, n))
both token other len n same_token same_len = cc

pub returns-in-60-clause-exact : goal.returns-in-60-clause-exact
returns-in-60-clause-exact c =
    let text = c.args.text.now in
    elim c.in-60-1.branch [
      | in-60+in-60-text-3 w ↦ ap (λ token. Some (token, 2)) c.executable_name.ensures ∙ double_read text 60 (inl refl) (omega arith) (omega arith)
      | in-62+in-62-text-4 w ↦ ap (λ token. Some (token, 2)) c.executable_name.ensures ∙ double_read text 62 (inr refl) (omega arith) (omega arith)
    ]

pub returns-in-91-clause-exact : goal.returns-in-91-clause-exact
returns-in-91-clause-exact c =
    let bracket : is_bracket (get_or c.args.text.now 0 0) ≡ true = grind (arith, nat_tests) in
    ap (λ token. Some (token, 1)) c.executable_name-in-91.ensures ∙ bracket_read c.args.text.now bracket

pub returns-in-47-clause-exact : goal.returns-in-47-clause-exact
returns-in-47-clause-exact c =
    both _ _ _ _ c.literal_name.ensures.token c.literal_name.ensures.len ∙ slash_read c.args.text.now _ (grind arith) (take_rest c.args.text.now 1)

pub returns-in-60-2-clause-exact : goal.returns-in-60-2-clause-exact
returns-in-60-2-clause-exact c =
    let text = c.args.text.now in
    let begins : ((get_or text 0 0 ≡ 60) × (get_or text 1 0 ≡ 60 → ⊥)) ⊎ (get_or text 0 0 ≡ 40) =
    elim c.in-60-2-1.branch [
      | then-text-lt2+in-40-1 w ↦
          elim (cases_eq (get_or text 0 0) 60) [
            | inl less ↦ inl (less, λ same. omega (arith, same, get_or_past text 1 0 (omega (arith, ltb-true))))
            | inr other ↦ inr (omega (arith, other, eqb-true, ltb-true))
          ]
      | else-text-lt2+in-60+in_default-1 w ↦ inl (omega arith, λ same. omega (arith, same))
      | else-text-lt2+in-40-1 w ↦ inr (omega arith)
    ] in
    c.string_piece.ensures.exact ∙ string_read text begins

pub returns-in-60-2-clause-within : goal.returns-in-60-2-clause-within
returns-in-60-2-clause-within c = c.string_piece.ensures.within

pub returns-in-len1-up : goal.returns-in-len1-up
returns-in-len1-up c = record {
  exact = both _ _ _ _ c.run_piece.ensures.token c.run_piece.ensures.len ∙ run_read c.args.text.now (sym c.if-is_regular.ensures);
  within = c.run_piece.ensures.within;
}

pub returns-in_default : goal.returns-in_default
returns-in_default c =
    let text = c.args.text.now in
    let b = get_or text 0 0 in
    let none : None ≡ first_piece text =
    elim c.in_default.branch [
      | in_default-via-then-text-lt1 w ↦ nothing_read text (omega (arith, ltb-true))
      | in_default-via-else-text-lt1+in-len1-up+else-is_regular w ↦
          let special : is_regular b ≡ false = sym w.if-is_regular.ensures in
          elim w.in-len1-up-1.branch [
            | then-text-lt2+in_default-1 v ↦
                let short : length text < 2 = omega (arith, ltb-true) in
                none_read text special (grind (arith, nat_tests)) (λ e. grind (arith, e)) (λ e. grind (arith, e)) (λ e. grind (arith, e))
                (λ _ e. omega (arith, e, get_or_past text 1 0 (omega (arith, short))))
            | else-text-lt2+in-62+in_default-1 v ↦
                none_read text special (grind (arith, nat_tests)) (λ e. grind (arith, e)) (λ e. grind (arith, e)) (λ e. grind (arith, e))
                (λ _ e. omega (arith, e))
            | else-text-lt2+in_default-1 v ↦
                none_read text special (grind (arith, nat_tests)) (λ e. grind (arith, e)) (λ e. grind (arith, e)) (λ e. grind (arith, e))
                (λ e _. grind (arith, e))
          ]
    ] in
    record { exact = none; within = tt }
