use Rattle.std.proofs.Common.{[], ◌∷◌, ap, ◌∙◌}
use Rattle.std.specs.Option.{option_or}
use Rattle.cmap_encode.specs.Alike.{alike_to, first_given}
use Rattle.cmap_encode.specs.ChoicesSeen.{owned}
use Rattle.cmap_encode.proofs.choices.Choices.nearest.Goals as goal

pub returns-in-None : goal.returns-in-None
returns-in-None c =
    let index = c.args.self.now.index in let own = first_given (λ one. owned index (one ∷ [])) in
    c.first_own.ensures ∙ ap own c.alike_to.ensures ∙ ap (λ o. option_or o (own (alike_to c.args.character))) c.in-None.ensures
