-- The codes of a string with their CIDs and their texts, by the CMaps of a font.
use Rattle.std.specs.Prelude.{◌≡◌, ℕ, List, [], ◌∷◌, drop, encode_utf8_all, flat_map, option_map, unwrap_or}
use Rattle.std.specs.Option.{option_copied}
use Rattle.cmap_tokens.specs.Texts.{Text, more, one}
use Rattle.cmap_tokens.specs.TextSeen.{text_seen}
use Rattle.cmap_values.specs.Only.{IsOnly}
use Rattle.cmap_layers.specs.StringCodes.{IsNextCode}
use Rattle.cmap_layers.specs.declared.string_codes.StringCode.{StringCode}
use Rattle.cmap_unicode.specs.Cids.{declared_cid}
use Rattle.cmap_unicode.specs.TextsOfCodes.{Font, HasLongText, IsTextOf}
use Rattle.cmap_unicode.specs.declared.extractor.Character.{Character}
use Rattle.cmap_unicode.specs.declared.extractor.Extractor.{Extractor}

abbrev pub font_of : Extractor → Font
font_of maps = record { encoding = maps.encoding.now; to_unicode = option_copied maps.to_unicode; collection = option_copied maps.collection }

-- a code with its CID and its text; the code has no other text
pub record IsCharacterOf (font : Font) (code : StringCode) (character : Character) : Type 0 where
  pub of_code : character.code ≡ code
  pub cid : character.cid ≡ declared_cid font.encoding code.code code.byte_len
  pub text : IsOnly (IsTextOf font code.code code.byte_len) (option_map text_seen character.text)

-- the code that the string begins with, with its CID and its text
pub record IsNextCharacter (font : Font) (string : List ℕ) (character : Character) : Type 0 where
  pub code : IsOnly (IsNextCode font.encoding string) character.code
  pub lookups : IsCharacterOf font character.code character

-- the code that the string begins with has a text of more than one character
pub record BeginsWithLongText (font : Font) (string : List ℕ) : Type 0 where
  pub code : StringCode
  pub is_next : IsOnly (IsNextCode font.encoding string) code
  pub is_long : HasLongText font code.code code.byte_len

-- all codes of the string, one after another, with their CIDs and their texts
abbrev pub AreCharactersOf : Font → List ℕ → List Character → Type 0
AreCharactersOf font string [] = string ≡ []
AreCharactersOf font string (character ∷ characters) = IsNextCharacter font string character × AreCharactersOf font (drop character.code.byte_len string) characters

-- the characters of a text
abbrev pub characters_of : Text → List ℕ
characters_of (one c) = c ∷ []
characters_of (more cs) = cs

-- in UTF-8, the text of a code, or `missing` if the code has no text
abbrev pub shown : List ℕ → Character → List ℕ
shown missing character = unwrap_or (option_map (λ text. encode_utf8_all (characters_of (text_seen text))) character.text) missing

-- in UTF-8, the texts of all codes of a string, one after another
abbrev pub IsTextOfString : Font → List ℕ → List ℕ → List ℕ → Type 0
IsTextOfString font string missing text = (characters : List Character) × AreCharactersOf font string characters × (text ≡ flat_map (shown missing) characters)
