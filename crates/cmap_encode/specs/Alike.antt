-- Characters of which one may stand for another: the lines of the tables.
use Rattle.std.specs.Prelude.{ℕ, ◌==◌, if◌then◌else◌, List, [], ◌∷◌, Option, None, Some, unwrap_or}
use Rattle.std.specs.Option.{option_or}
use Rattle.std.specs.List.{list_any}

-- the value of the function for the first item that has a value
abbrev pub first_given : {A B : Type 0} → (A → Option B) → List A → Option B
first_given f [] = None
first_given f (x ∷ xs) = option_or (f x) (first_given f xs)

-- a line that has the character
abbrev pub line_with : ℕ → List ℕ → Option (List ℕ)
line_with character line = if list_any (λ other. other == character) line then Some line else None

-- the line of the character, or no characters
abbrev pub line_of : List (List ℕ) → ℕ → List ℕ
line_of lines character = unwrap_or (first_given (line_with character) lines) []

-- characters that look or mean the same: spaces, hyphens and dashes; what JIS X 0208, KS X 1001 and their use in Windows show by other characters of Unicode; singletons and letters that the Adobe Glyph List has under two numbers; and punctuation with its forms for vertical writing
abbrev pub alike_lines : List (List ℕ)
alike_lines =
    (0x20 ∷ 0xA0 ∷ 0x2000 ∷ 0x2001 ∷ 0x2002 ∷ 0x2003 ∷ 0x2004 ∷ 0x2005 ∷ 0x2006 ∷ 0x2007 ∷ 0x2008 ∷ 0x2009 ∷ 0x200A ∷ 0x202F ∷ 0x205F ∷ [])
    ∷ (0x2D ∷ 0xAD ∷ 0x2010 ∷ 0x2011 ∷ [])
    ∷ (0x2014 ∷ 0x2015 ∷ 0xFE31 ∷ [])
    ∷ (0x2016 ∷ 0x2225 ∷ [])
    ∷ (0x2212 ∷ 0xFF0D ∷ [])
    ∷ (0x223C ∷ 0x301C ∷ 0xFF5E ∷ [])
    ∷ (0xA2 ∷ 0xFFE0 ∷ [])
    ∷ (0xA3 ∷ 0xFFE1 ∷ [])
    ∷ (0xA5 ∷ 0xFFE5 ∷ [])
    ∷ (0xA6 ∷ 0xFFE4 ∷ [])
    ∷ (0xAC ∷ 0xFFE2 ∷ [])
    ∷ (0xAF ∷ 0x2C9 ∷ 0x203E ∷ 0xFFE3 ∷ [])
    ∷ (0x20A9 ∷ 0xFFE6 ∷ [])
    ∷ (0xB5 ∷ 0x3BC ∷ [])
    ∷ (0xB7 ∷ 0x2219 ∷ [])
    ∷ (0xC5 ∷ 0x212B ∷ [])
    ∷ (0x4B ∷ 0x212A ∷ [])
    ∷ (0x162 ∷ 0x21A ∷ [])
    ∷ (0x163 ∷ 0x21B ∷ [])
    ∷ (0x394 ∷ 0x2206 ∷ [])
    ∷ (0x3A9 ∷ 0x2126 ∷ [])
    ∷ (0x2044 ∷ 0x2215 ∷ [])
    ∷ (0xFF0C ∷ 0xFE10 ∷ [])
    ∷ (0x3001 ∷ 0xFE11 ∷ [])
    ∷ (0x3002 ∷ 0xFE12 ∷ [])
    ∷ (0xFF1A ∷ 0xFE13 ∷ [])
    ∷ (0xFF1B ∷ 0xFE14 ∷ [])
    ∷ (0xFF01 ∷ 0xFE15 ∷ [])
    ∷ (0xFF1F ∷ 0xFE16 ∷ [])
    ∷ (0x3016 ∷ 0xFE17 ∷ [])
    ∷ (0x3017 ∷ 0xFE18 ∷ [])
    ∷ (0x2026 ∷ 0xFE19 ∷ [])
    ∷ (0x2025 ∷ 0xFE30 ∷ [])
    ∷ (0x2013 ∷ 0xFE32 ∷ [])
    ∷ (0xFF3F ∷ 0xFE33 ∷ 0xFE34 ∷ [])
    ∷ (0xFF08 ∷ 0xFE35 ∷ [])
    ∷ (0xFF09 ∷ 0xFE36 ∷ [])
    ∷ (0xFF5B ∷ 0xFE37 ∷ [])
    ∷ (0xFF5D ∷ 0xFE38 ∷ [])
    ∷ (0x3014 ∷ 0xFE39 ∷ [])
    ∷ (0x3015 ∷ 0xFE3A ∷ [])
    ∷ (0x3010 ∷ 0xFE3B ∷ [])
    ∷ (0x3011 ∷ 0xFE3C ∷ [])
    ∷ (0x300A ∷ 0xFE3D ∷ [])
    ∷ (0x300B ∷ 0xFE3E ∷ [])
    ∷ (0x3008 ∷ 0xFE3F ∷ [])
    ∷ (0x3009 ∷ 0xFE40 ∷ [])
    ∷ (0x300C ∷ 0xFE41 ∷ [])
    ∷ (0x300D ∷ 0xFE42 ∷ [])
    ∷ (0x300E ∷ 0xFE43 ∷ [])
    ∷ (0x300F ∷ 0xFE44 ∷ [])
    ∷ (0xFF3B ∷ 0xFE47 ∷ [])
    ∷ (0xFF3D ∷ 0xFE48 ∷ []) ∷ []

-- a character of ASCII, and the characters that national versions of ISO 646 show by its byte
abbrev pub national_lines : List (List ℕ)
national_lines =
    (0x5C ∷ 0xA5 ∷ 0x20A9 ∷ [])
    ∷ (0x7C ∷ 0xA6 ∷ 0xFFE8 ∷ [])
    ∷ (0x7E ∷ 0x203E ∷ 0x303 ∷ []) ∷ []

abbrev pub alike_to : ℕ → List ℕ
alike_to character = line_of alike_lines character

abbrev pub national_of : ℕ → List ℕ
national_of character = line_of national_lines character
