-- Paths as texts.
use Rattle.std.specs.Prelude.{◌≡◌, ◌⊎◌, ℕ, ◌<◌, ◌==◌, nat_le, ◌&&◌, if◌then◌else◌, List, [], ◌∷◌, All, IsUtf8, Option, None, Some}
use Rattle.std.specs.List.{flat_map}
use Rattle.std.specs.Str.{chars}
use Rattle.cmap_io.specs.Escapes.{bytes_shown}
use Rattle.cmap_io.specs.Shown.{character_shown}

abbrev pub HasNoZero : List ℕ → Type 0
HasNoZero bytes = All (λ byte. ¬ (byte ≡ 0)) bytes

-- a byte of a path that isn't plain UTF-8: itself, or for 0 and from 0x80 on a zero byte and two digits
abbrev pub marked_byte : ℕ → List ℕ
marked_byte byte = if nat_le 1 byte && nat_le byte 0x7F then byte ∷ [] else 0 ∷ bytes_shown (byte ∷ [])

abbrev pub marked : List ℕ → List ℕ
marked path = flat_map marked_byte path

-- the text of a path: the path, or the marked bytes where the path isn't UTF-8 or has a zero byte
abbrev pub IsTextOf : List ℕ → List ℕ → Type 0
IsTextOf path text = (IsUtf8 path × HasNoZero path × (text ≡ path)) ⊎ (¬ (IsUtf8 path × HasNoZero path) × (text ≡ marked path))

abbrev pub AreBytes : List ℕ → Type 0
AreBytes bytes = All (λ byte. byte < 0x100) bytes

-- the text spells these bytes in one of the two ways
abbrev pub AreSpelled : List ℕ → List ℕ → Type 0
AreSpelled bytes text = (HasNoZero bytes × (text ≡ bytes)) ⊎ (text ≡ marked bytes)

-- the first of these bytes is taken, and the others are left
abbrev pub TakesFirst : List ℕ → Option ℕ → List ℕ → Type 0
TakesFirst [] taken left = taken ≡ None
TakesFirst (byte ∷ bytes) taken left = (taken ≡ Some byte) × AreSpelled bytes left

-- a character of the text of a path in its printed form: `\x` before the digits of a byte, and any other character as
-- in other texts
abbrev pub path_character_shown : ℕ → List ℕ
path_character_shown character = if character == 0 then 0x5C ∷ 0x78 ∷ [] else character_shown character

-- the text of a path in its printed form
abbrev pub path_shown : List ℕ → List ℕ
path_shown path = flat_map path_character_shown (chars path)
