-- The classes of bytes. PostScript Language Reference, third edition, 3.2.1 and 3.2.2.
use Rattle.std.specs.Prelude.{ℕ, Bool, false, not, ◌&&◌, ◌==◌, List, [], ◌∷◌, codes}
use Rattle.std.specs.List.{list_any}

-- nul, tab, line feed, form feed, carriage return, space
abbrev pub is_white : ℕ → Bool
is_white b = list_any (λ c. b == c) (codes "\0\t\n\u{c}\r ")

abbrev pub is_delimiter : ℕ → Bool
is_delimiter b = list_any (λ c. b == c) (codes "()<>[]{}/%")

-- every other byte, such as all bytes from 128 on
abbrev pub is_regular : ℕ → Bool
is_regular b = not (is_white b) && not (is_delimiter b)

-- the text begins with a byte for which p is true
abbrev pub begins : (ℕ → Bool) → List ℕ → Bool
begins p [] = false
begins p (b ∷ text) = p b
