-- The code of a character with a variation selector.
use Rattle.std.proofs.Common.{◌≡◌, ℕ, [], ◌∷◌, ◌++◌, None, Some, ap, ◌∙◌}
use Rattle.std.specs.Option.{option_or}
use Rattle.cmap_encode.specs.Alike.{first_given}
use Rattle.cmap_encode.specs.ChoicesSeen.{owned, owned_at}
use Rattle.cmap_encode.specs.Letters.{counted, selectors}
use Rattle.cmap_encode.specs.TreeSeen.{step_of}
use Rattle.cmap_encode.specs.declared.index.Index.{Index}
use Rattle.cmap_encode.proofs.FirstGiven.{given_append, none_given}

module _ (index : Index) (character : ℕ) where
  -- no text goes on after the character
  pub selected_none : step_of index.tree 0 character ≡ None → first_given (λ last. owned index (character ∷ last ∷ [])) selectors ≡ None
  selected_none none = none_given (λ last. owned index (character ∷ last ∷ [])) selectors (λ last. ap (λ node. owned_at index node last) none)

  -- texts do, from this node
  pub selected_some : (node : ℕ) → step_of index.tree 0 character ≡ Some node → first_given (λ last. owned index (character ∷ last ∷ [])) selectors
      ≡ option_or (first_given (owned_at index (Some node)) (counted 0xFE00 16)) (first_given (owned_at index (Some node)) (counted 0xE0100 240))
  unfolding selectors
  selected_some node is =
      ap (λ f. first_given f (counted 0xFE00 16 ++ counted 0xE0100 240)) (λ i last. ap (λ n. owned_at index n last) is i)
      ∙ given_append (owned_at index (Some node)) (counted 0xFE00 16) (counted 0xE0100 240)
