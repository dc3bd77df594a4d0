use Rattle.std.proofs.Common.{[], ◌∷◌, sym, ap, ◌∙◌, arith}
use Rattle.std.specs.Prelude.{option_map}
use Rattle.cmap_encode.specs.ChoicesSeen.{choice_seen, owned}
use Rattle.cmap_encode.specs.Standing.{national_as}
use Rattle.cmap_encode.proofs.FirstGiven.{none_more, some_here}
use Rattle.cmap_encode.proofs.choices.Choices.first_national.Goals as goal

pub returns-in-Some : goal.returns-in-Some
returns-in-Some c =
    let index = c.args.self.now.index in let all = c.args.others.now in let i = c.loop-other.other-index in
    let gives = ap (λ other. national_as c.args.character (owned index (other ∷ []))) (sym c.other-item.is) ∙ sym c.national_by.ensures ∙ ap (option_map choice_seen) c.in-Some.is in
    sym (some_here (λ other. national_as c.args.character (owned index (other ∷ []))) all i _ (omega arith) c.loop-other.invariant (choice_seen c.in-Some.national) gives)

pub loop-other-preserved : goal.loop-other-preserved
loop-other-preserved c =
    let index = c.args.self.now.index in let all = c.args.others.now in let i = c.loop-other.other-index in
    none_more (λ other. national_as c.args.character (owned index (other ∷ []))) all i _ (omega arith) c.loop-other.invariant
    (ap (λ other. national_as c.args.character (owned index (other ∷ []))) (sym c.other-item.is) ∙ sym c.national_by.ensures ∙ ap (option_map choice_seen) c.in_default.is)
