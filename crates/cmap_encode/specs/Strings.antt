-- Strings, and which of two comes first.
use Rattle.std.specs.Prelude.{◌≡◌, ℕ, ◌<◌, ◌⊎◌, All, List, [], ◌∷◌, length}

-- a string has bytes
abbrev pub IsString : List ℕ → Type 0
IsString string = All (λ byte. byte < 256) string

-- the first string is less at the first byte at which the two differ, or it is a prefix of the second
abbrev pub IsAtMost : List ℕ → List ℕ → Type 0
IsAtMost [] ys = Unit {0}
IsAtMost (x ∷ xs) [] = ⊥
IsAtMost (x ∷ xs) (y ∷ ys) = (x < y) ⊎ ((x ≡ y) × IsAtMost xs ys)

-- it is shorter than the second, or as long and no greater
abbrev pub IsNotAfter : List ℕ → List ℕ → Type 0
IsNotAfter string other = (length string < length other) ⊎ ((length string ≡ length other) × IsAtMost string other)
