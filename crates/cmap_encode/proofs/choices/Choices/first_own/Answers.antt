use Rattle.std.proofs.Common.{[], ◌∷◌, Some, sym, ap, ◌∙◌, arith}
use Rattle.std.specs.Prelude.{option_map}
use Rattle.cmap_encode.specs.ChoicesSeen.{own_choice, owned, owned_at}
use Rattle.cmap_encode.proofs.FirstGiven.{none_more, some_here}
use Rattle.cmap_encode.proofs.choices.Choices.first_own.Goals as goal

pub returns-in-Some : goal.returns-in-Some
returns-in-Some c =
    let index = c.args.self.now.index in let all = c.args.characters.now in let i = c.loop-character.character-index in
    let gives = ap (λ one. owned index (one ∷ [])) (sym c.character-item.is) ∙ ap (owned_at index (Some 0)) (sym c.from.ensures) ∙ ap (option_map own_choice) (sym c.find.ensures ∙ c.in-Some.is) in
    sym (some_here (λ one. owned index (one ∷ [])) all i _ (omega arith) c.loop-character.invariant (own_choice c.in-Some.own) gives)

pub loop-character-preserved : goal.loop-character-preserved
loop-character-preserved c =
    let index = c.args.self.now.index in let all = c.args.characters.now in let i = c.loop-character.character-index in
    none_more (λ one. owned index (one ∷ [])) all i _ (omega arith) c.loop-character.invariant
    (ap (λ one. owned index (one ∷ [])) (sym c.character-item.is) ∙ ap (owned_at index (Some 0)) (sym c.from.ensures) ∙ ap (option_map own_choice) (sym c.find.ensures ∙ c.in_default.is))
