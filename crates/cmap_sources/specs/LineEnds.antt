-- The lines of a text.
use Rattle.std.specs.Prelude.{ℕ, ◌+◌, ◌==◌, ◌&&◌, ◌||◌, not, Bool, List, [], ◌∷◌, if◌then◌else◌}

-- the number of line ends of a text, which follows a carriage return or not; a line end is LF, CR, or CR and LF
abbrev pub line_ends : Bool → List ℕ → ℕ
line_ends after_return [] = 0
line_ends after_return (b ∷ text) = (if b == 13 || b == 10 && not after_return then 1 else 0) + line_ends (b == 13) text
