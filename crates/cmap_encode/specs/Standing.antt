-- The choice for a piece of a text: its own code, or else the code of a similar character.
use Rattle.std.specs.Prelude.{ℕ, Bool, ◌||◌, ◌==◌, bytes_eq, if◌then◌else◌, [], ◌∷◌, Option, None, Some, option_and_then, option_map}
use Rattle.std.specs.Option.{option_or}
use Rattle.cmap_encode.specs.Alike.{alike_to, first_given, national_of}
use Rattle.cmap_encode.specs.Letters.{is_selector, selectors}
use Rattle.cmap_encode.specs.Pieces.{Choice, Choices}
use Rattle.cmap_encode.specs.declared.choices.Grade.TheVariants.{Alike, National}

-- as a text, these characters only mean that there is no character
abbrev pub is_no_character : ℕ → Bool
is_no_character character = character == 0 || character == 0xFFFD || character == 0xFFFF

-- the code of another text, in the place of the character
abbrev pub alike_as : Option Choice → Option Choice
alike_as own = option_map (λ choice. record { bytes = choice.bytes; grade = Alike }) own

-- the same where it is the byte of the character
abbrev pub national_as : ℕ → Option Choice → Option Choice
national_as character own = option_and_then (λ choice. if bytes_eq choice.bytes (character ∷ []) then Some (record { bytes = choice.bytes; grade = National }) else None) own

-- nothing needs to stand for a variation selector
abbrev pub selector : ℕ → Option Choice
selector character = if is_selector character then Some (record { bytes = []; grade = Alike }) else None

module _ (own : Choices) (exact : Bool) where
  -- the code of the character with the first variation selector with which it has a code
  abbrev pub selected : ℕ → Option Choice
  selected character = first_given (λ last. own (character ∷ last ∷ [])) selectors

  -- or else the code of the first similar character that has a code
  abbrev pub nearest : ℕ → Option Choice
  nearest character = option_or (selected character) (first_given (λ other. own (other ∷ [])) (alike_to character))

  abbrev pub near : ℕ → Option Choice
  near character = alike_as (nearest character)

  -- the byte of the character, as the code of a character that national versions of ISO 646 show by this byte
  abbrev pub national : ℕ → Option Choice
  national character = first_given (λ other. national_as character (own (other ∷ []))) (national_of character)

  -- what stands for a character that has no code of its own
  abbrev pub other : ℕ → Option Choice
  other character = if exact then None else option_or (near character) (option_or (national character) (selector character))

  -- what stands for a character
  abbrev pub one : ℕ → Option Choice
  one character = if is_no_character character then None else option_or (own (character ∷ [])) (other character)

  -- what stands for a text; but for a character that is its own code
  abbrev pub standing : Choices
  standing [] = None
  standing (character ∷ []) = one character
  standing (character ∷ next ∷ after) = own (character ∷ next ∷ after)
