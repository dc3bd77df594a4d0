-- Private aid: the numbers of names.
use Rattle.std.specs.Prelude.{◌≡◌, ℕ, ◌⊎◌, ◌<◌, List, [], ◌∷◌, ◌++◌, All, length, Option, Some, get_or, slice_get}

-- the text of the name of a number
abbrev pub text_at : List (List ℕ) → ℕ → List ℕ
text_at texts number = get_or texts number []

-- no two names have one text
abbrev pub AreDistinct : List (List ℕ) → Type 0
AreDistinct texts = (first second : ℕ) (text : List ℕ) → slice_get texts first ≡ Some text → slice_get texts second ≡ Some text → first ≡ second

-- there are more names
abbrev pub IsMore : List (List ℕ) → List (List ℕ) → Type 0
IsMore before after = (more : List (List ℕ)) × (after ≡ before ++ more)

-- a name has this number; a name that had no number is added
abbrev pub IsNumbered : List (List ℕ) → List (List ℕ) → List ℕ → ℕ → Type 0
IsNumbered before after name number = ((slice_get before number ≡ Some name) × (after ≡ before)) ⊎ ((number ≡ length before) × (after ≡ before ++ name ∷ []))

-- these numbers have names
abbrev pub AreWithin : List (List ℕ) → List ℕ → Type 0
AreWithin texts numbers = All (λ number. number < length texts) numbers

-- each name of a list is found by its text
pub record FindsEach (found : List ℕ → Option ℕ) (texts : List (List ℕ)) : Type 0 where
  pub at : (text : List ℕ) (number : ℕ) → found text ≡ Some number → slice_get texts number ≡ Some text
  pub all : (number : ℕ) (text : List ℕ) → slice_get texts number ≡ Some text → found text ≡ Some number
