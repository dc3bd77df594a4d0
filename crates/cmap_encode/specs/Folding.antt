-- A text in the characters that are usually written for what it shows.
use Rattle.std.specs.Prelude.{ℕ, Bool, ◌==◌, ◌||◌, if◌then◌else◌, List, [], ◌∷◌, ◌++◌, flat_map}
use Rattle.ucd_normal.specs.Decomposition.{compatibility_decomposition, or_itself}
use Rattle.cmap_encode.specs.Alike.{alike_to, national_of}
use Rattle.cmap_encode.specs.Letters.{is_between, is_selector}

-- presentation forms of Latin, Armenian, Hebrew and Arabic letters, and radicals of Kangxi, which are ideographs. The Unicode Standard, 9.2 and 23.8
abbrev pub is_form : ℕ → Bool
is_form character = is_between 0x2F00 0x2FDF character || is_between 0xFB00 0xFDFF character || is_between 0xFE70 0xFEFF character

-- the characters to which the Unicode Standard decomposes a form, or the form itself
abbrev pub letters_of : ℕ → List ℕ
letters_of form = or_itself form (compatibility_decomposition form)

-- spaces of other widths, punctuation of vertical writing, and the half-width bar
abbrev pub is_unusual : ℕ → Bool
is_unusual character = character == 0xA0 || is_between 0x2000 0x200A character || character == 0x202F || character == 0x205F || is_between 0xFE10 0xFE19 character || is_between 0xFE30 0xFE48 character || character == 0xFFE8

-- the first of these characters, or another
abbrev pub first_or : ℕ → List ℕ → ℕ
first_or other [] = other
first_or other (first ∷ more) = first

-- the usual character for a character: the first of its line, if the character is unusual and has a line, else the character itself
abbrev pub usual : ℕ → ℕ
usual character = if is_unusual character then first_or character (alike_to character ++ national_of character) else character

-- the usual characters for a character
abbrev pub folded_character : ℕ → List ℕ
folded_character character =
    if is_selector character then []
    else if is_form character then letters_of character
    else usual character ∷ []

abbrev pub folded : List ℕ → List ℕ
folded text = flat_map folded_character text
