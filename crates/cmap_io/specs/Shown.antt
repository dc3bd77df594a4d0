-- Texts in their printed form.
use Rattle.std.specs.Prelude.{◌≡◌, ℕ, Bool, true, false, ◌⊎◌, ◌==◌, if◌then◌else◌, List, [], ◌∷◌, ◌++◌, All, encode_utf8, encode_utf8_all}
use Rattle.std.specs.Fmt.{digits}
use Rattle.std.specs.List.{flat_map}
use Rattle.std.specs.Str.{chars}
use Rattle.ucd_category.specs.GeneralCategory.{general_category}
use Rattle.ucd_category.specs.declared.GeneralCategory.{GeneralCategory}
use Rattle.ucd_category.specs.declared.GeneralCategory.TheVariants.{LineSeparator, ParagraphSeparator, Control, Format, Surrogate, PrivateUse, Unassigned}
use Rattle.cmap_io.specs.Escapes.{IsPrintable}

-- characters that aren't visible, or that change the appearance of other characters
abbrev pub is_hidden : GeneralCategory → Bool
is_hidden LineSeparator = true
is_hidden ParagraphSeparator = true
is_hidden Control = true
is_hidden Format = true
is_hidden Surrogate = true
is_hidden PrivateUse = true
is_hidden Unassigned = true
is_hidden _ = false

-- the number of a character, as `\u{H..}`
abbrev pub number_shown : ℕ → List ℕ
number_shown character = 0x5C ∷ 0x75 ∷ 0x7B ∷ (digits 16 true character ++ 0x7D ∷ [])

-- a character: `\\`, `\"`, the number of a hidden character, and any other character as it is
abbrev pub character_shown : ℕ → List ℕ
character_shown character =
    if character == 0x5C then 0x5C ∷ 0x5C ∷ []
    else if character == 0x22 then 0x5C ∷ 0x22 ∷ []
    else if is_hidden (general_category character) then number_shown character
    else encode_utf8 character

-- a text, character by character
abbrev pub text_shown : List ℕ → List ℕ
text_shown text = flat_map character_shown (chars text)

-- a text between quotation marks
abbrev pub quoted_shown : List ℕ → List ℕ
quoted_shown text = 0x22 ∷ (text_shown text ++ 0x22 ∷ [])

-- a character that may be printed as it is
abbrev pub IsShown : ℕ → Type 0
IsShown character = IsPrintable character ⊎ (is_hidden (general_category character) ≡ false)

-- the new text is the old one and such characters
abbrev pub AddsShown : List ℕ → List ℕ → Type 0
AddsShown old new = (added : List ℕ) × (new ≡ old ++ encode_utf8_all added) × All IsShown added
