-- How a text falls into pieces, each with what stands for it.
use Rattle.std.specs.Prelude.{◌≡◌, ℕ, ◌+◌, ◌<◌, ◌≤◌, ◌⊎◌, IsSome, List, [], ◌∷◌, ◌++◌, Option, Some, drop, length, take, take_while}
use Rattle.cmap_encode.specs.Letters.{is_mark}
use Rattle.cmap_encode.specs.declared.choices.Grade.{Grade}

-- the choice for a piece of a text: the bytes of a code, or no bytes; and the grade
pub record Choice : Type 0 where
  pub bytes : List ℕ
  pub grade : Grade

-- what stands for each piece, if something does
abbrev pub Choices : Type 0
Choices = List ℕ → Option Choice

-- the text falls into pieces for which something stands
pub data IsEncodable (choices : Choices) : List ℕ → Type 0 where
  nothing : IsEncodable choices []
  next : (piece after : List ℕ) → 0 < length piece → IsSome (choices piece) → IsEncodable choices after → IsEncodable choices (piece ++ after)

-- the number of characters in the first letter of a text: a character, and the marks after it
abbrev pub letter_of : List ℕ → ℕ
letter_of [] = 0
letter_of (character ∷ after) = 1 + length (take_while is_mark after)

-- of two lengths the first is tried sooner: those within the letter come first, and of these, as of the others, the longest
abbrev pub IsSooner : ℕ → ℕ → ℕ → Type 0
IsSooner letter len other = ((len ≤ letter) × ((letter < other) ⊎ (other < len))) ⊎ ((letter < len) × (letter < other) × (other < len))

-- the first piece may have len characters: something stands for them, and what comes after them falls into pieces
pub record MayBegin (choices : Choices) (text : List ℕ) (len : ℕ) : Type 0 where
  pub some : 1 ≤ len
  pub within : len ≤ length text
  pub chosen : IsSome (choices (take len text))
  pub rest : IsEncodable choices (drop len text)

-- the first piece has len characters: the first piece may have no length that is tried sooner
pub record BeginsWith (choices : Choices) (text : List ℕ) (len : ℕ) : Type 0 where
  pub may : MayBegin choices text len
  pub first : (other : ℕ) → IsSooner (letter_of text) other len → MayBegin choices text other → ⊥

-- what stands for the pieces of a text, one after another
pub data AreChoices (choices : Choices) : List ℕ → List Choice → Type 0 where
  nothing : AreChoices choices [] []
  next : (text : List ℕ) (len : ℕ) (first : Choice) (rest : List Choice) → BeginsWith choices text len → choices (take len text) ≡ Some first → AreChoices choices (drop len text) rest → AreChoices choices text (first ∷ rest)
