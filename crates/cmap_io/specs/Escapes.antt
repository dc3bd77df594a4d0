-- Names and codes in their printed form, and the text that a call adds to a text.
use Rattle.std.specs.Prelude.{◌≡◌, ◌⊎◌, ℕ, ◌+◌, ◌-◌, ◌/◌, ◌%◌, ◌≤◌, ◌==◌, ◌&&◌, nat_lt, nat_le, if◌then◌else◌, List, [], ◌∷◌, ◌++◌, drop, All}
use Rattle.std.specs.Int.{w32, to_be_bytes}
use Rattle.std.specs.List.{flat_map}
use Rattle.cmap_io.specs.declared.digits.Letters.{Letters}
use Rattle.cmap_io.specs.declared.digits.Letters.TheVariants.{Capital, Small}

-- a byte that a terminal prints as a character
abbrev pub IsPrintable : ℕ → Type 0
IsPrintable byte = (0x20 ≤ byte) × (byte ≤ 0x7E)

-- the new text is the old one and printable bytes
abbrev pub AddsPrintable : List ℕ → List ℕ → Type 0
AddsPrintable old new = (added : List ℕ) × (new ≡ old ++ added) × All IsPrintable added

-- the new text is the old one and one line of printable bytes
abbrev pub AddsLine : List ℕ → List ℕ → Type 0
AddsLine old new = (line : List ℕ) × (new ≡ old ++ (line ++ 0x0A ∷ [])) × All IsPrintable line

-- the line or a prefix of it is added
abbrev pub AddsOfLine : List ℕ → List ℕ → Type 0
AddsOfLine old new = AddsPrintable old new ⊎ AddsLine old new

-- the number that makes a letter of a digit from 10 on
abbrev pub letters_from : Letters → ℕ
letters_from Capital = 0x37
letters_from Small = 0x57

-- the hexadecimal digit of a number below 16
abbrev pub digit_of : Letters → ℕ → ℕ
digit_of letters number = if nat_lt number 10 then 0x30 + number else letters_from letters + number

-- the two digits of a byte
abbrev pub digits_of : Letters → ℕ → List ℕ
digits_of letters byte = digit_of letters (byte / 16) ∷ digit_of letters (byte % 16) ∷ []

-- the digits of bytes
abbrev pub bytes_shown : List ℕ → List ℕ
bytes_shown bytes = flat_map (digits_of Capital) bytes

-- the digits of a code, two for each of its one to four bytes
abbrev pub code_shown : ℕ → ℕ → List ℕ
code_shown byte_len code = bytes_shown (drop (4 - byte_len) (to_be_bytes w32 code))

-- a byte of a name: `\\`, itself, or `\xHH`
abbrev pub byte_shown : ℕ → List ℕ
byte_shown byte =
    if byte == 0x5C then 0x5C ∷ 0x5C ∷ []
    else if nat_le 0x20 byte && nat_le byte 0x7E then byte ∷ []
    else 0x5C ∷ 0x78 ∷ digits_of Capital byte

-- a name, byte by byte
abbrev pub name_shown : List ℕ → List ℕ
name_shown name = flat_map byte_shown name
