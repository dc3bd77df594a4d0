-- The printed text of a value of JSON.
use Rattle.std.specs.Prelude.{ℕ, ◌/◌, ◌%◌, ◌==◌, ◌&&◌, ◌||◌, nat_le, nat_lt, if◌then◌else◌, List, [], ◌∷◌, ◌++◌}
use Rattle.std.specs.Char.Escape.{encode_utf16}
use Rattle.std.specs.List.{flat_map}
use Rattle.std.specs.Str.{chars}
use Rattle.cmap_io.specs.Escapes.{digits_of}
use Rattle.cmap_io.specs.declared.digits.Letters.TheVariants.{Small}

-- the letter of the short escape of a byte, or 0 for a byte without a short escape
abbrev pub letter_of : ℕ → ℕ
letter_of byte =
    if byte == 0x22 || byte == 0x5C then byte
    else if byte == 8 then 0x62
    else if byte == 12 then 0x66
    else if byte == 10 then 0x6E
    else if byte == 13 then 0x72
    else if byte == 9 then 0x74
    else 0

-- a byte of a string: its short escape, the number of another control character, or the byte itself
abbrev pub byte_spelled : ℕ → List ℕ
byte_spelled byte =
    if nat_lt 0 (letter_of byte) then 0x5C ∷ letter_of byte ∷ []
    else if nat_lt byte 0x20 then 0x5C ∷ 0x75 ∷ 0x30 ∷ 0x30 ∷ digits_of Small byte
    else byte ∷ []

-- a string, byte by byte
abbrev pub text_spelled : List ℕ → List ℕ
text_spelled text = flat_map byte_spelled text

-- a unit of UTF-16 as `\uhhhh`
abbrev pub unit_escaped : ℕ → List ℕ
unit_escaped unit = 0x5C ∷ 0x75 ∷ (digits_of Small (unit / 0x100) ++ digits_of Small (unit % 0x100))

-- a character: itself from 0x20 to 0x7E, otherwise the escapes of its units
abbrev pub character_escaped : ℕ → List ℕ
character_escaped character =
    if nat_le 0x20 character && nat_le character 0x7E then character ∷ []
    else flat_map unit_escaped (encode_utf16 character)

-- a text, character by character
abbrev pub escaped : List ℕ → List ℕ
escaped text = flat_map character_escaped (chars text)
