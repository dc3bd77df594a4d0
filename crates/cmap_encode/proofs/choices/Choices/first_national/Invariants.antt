use Rattle.std.proofs.Common.{◌≡◌, [], ◌∷◌, None, take}
use Rattle.cmap_encode.specs.Alike.{first_given}
use Rattle.cmap_encode.specs.ChoicesSeen.{owned}
use Rattle.cmap_encode.specs.Standing.{national_as}
use Rattle.cmap_encode.proofs.choices.Choices.first_national.Given as goal

abbrev pub invariant-loop-other : goal.invariant-loop-other
invariant-loop-other l = first_given (λ other. national_as l.character (owned l.self.index (other ∷ []))) (take l.other-index l.others) ≡ None
