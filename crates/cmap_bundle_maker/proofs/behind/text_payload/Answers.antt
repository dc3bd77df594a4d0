use Rattle.std.proofs.Common.{◌≡◌, ◌∙◌, ◌+◌, [], ◌∷◌, ◌++◌, false, All, ap, length, refl, subst, sym, arith}
use Rattle.std.proofs.lemmas.List.{length-append, length-replicate}
use Rattle.std.proofs.lemmas.List.Elements.{All-replicate}
use Rattle.std.specs.Prelude.{ℕ}
use Rattle.cmap_tokens.specs.Gaps.{ends_comment}
use Rattle.cmap_binary_writer.specs.Written.{bytes_of}
use Rattle.cmap_bundle_maker.proofs.behind.text_payload.Goals as goal

pub returns-clause-written : goal.returns-clause-written
returns-clause-written c =
    let text = c.args.text.now in
    let spaces = c.in_ok-spaces.spaces.items in
    let made = c.in_ok-spaces.ensures.items_if_clones_equal (λ y h. h) in
    let front = c.in_ok-extend_from_slice.ensures.items ∙ ap (λ bs. bs ++ text) (c.in_ok-push.ensures.items ∙ ap (λ bs. bs ++ 10 ∷ []) c.new-payload.ensures.items) in
    let is : c.extend_from_slice-2.new.self.items ≡ 10 ∷ (text ++ spaces) = c.in_ok-extend_from_slice-2.ensures.items ∙ ap (λ bs. c.extend_from_slice.new.self.items ++ bs) c.deref.ensures.value ∙ ap (λ bs. bs ++ spaces) front in
    let size : c.without_line_end.result ≡ 10 + length c.extend_from_slice-2.new.self.items = omega (arith, ap length is, length-append text spaces, ap length made, length-replicate {A = ℕ}) in (
      spaces,
      is,
      subst (λ bs. All (λ b. b ≡ 32) bs) (sym made) (All-replicate (λ b. b ≡ 32) _ 32 (refl {a = 32})),
      subst (λ n. All (λ b. ends_comment b ≡ false) (bytes_of 4 n)) size c.without_line_end.ensures.ends,
    )
