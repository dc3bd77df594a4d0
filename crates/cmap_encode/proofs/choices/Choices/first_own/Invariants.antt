use Rattle.std.proofs.Common.{◌≡◌, [], ◌∷◌, None, take}
use Rattle.cmap_encode.specs.Alike.{first_given}
use Rattle.cmap_encode.specs.ChoicesSeen.{owned}
use Rattle.cmap_encode.proofs.choices.Choices.first_own.Given as goal

abbrev pub invariant-loop-character : goal.invariant-loop-character
invariant-loop-character l = first_given (λ one. owned l.self.index (one ∷ [])) (take l.character-index l.characters) ≡ None
