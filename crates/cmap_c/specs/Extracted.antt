-- The codes of a string with their CIDs and their texts, in their C form.
use Rattle.std.specs.Prelude.{◌≡◌, ℕ, ◌+◌, ◌-◌, ◌<◌, ◌≤◌, ◌⊎◌, List, [], ◌∷◌, ◌++◌, Option, Some, None, drop, length, is_some, unwrap_or}
use Rattle.std.specs.Int.{from_bool}
use Rattle.std.specs.List.{flat_map}
use Rattle.cmap_tokens.specs.declared.utf16.BfString.{BfString}
use Rattle.cmap_layers.specs.Layers.{Layer}
use Rattle.cmap_unicode.specs.Characters.{BeginsWithLongText, IsNextCharacter}
use Rattle.cmap_unicode.specs.TextsOfCodes.{Font}
use Rattle.cmap_unicode.specs.declared.extractor.Character.{Character}
use Rattle.cmap_handles.specs.Handles.{utf8_of}
use Rattle.cmap_handles.specs.Statuses.{number}
use Rattle.cmap_c.specs.declared.extract.Extracted.{Extracted}
use Rattle.cmap_c.specs.declared.extract.ExtractedCharacter.{ExtractedCharacter}
use Rattle.cmap_handles.specs.declared.status.Status.TheVariants.{Done, NoMemory, NoRoom}

-- the string begins with these characters, one after another, and `left` is the rest of the string
abbrev pub BeginsWithCharacters : Font → List ℕ → List Character → List ℕ → Type 0
BeginsWithCharacters font string [] left = left ≡ string
BeginsWithCharacters font string (character ∷ characters) left = IsNextCharacter font string character × BeginsWithCharacters font (drop character.code.byte_len string) characters left

-- the text of a character in UTF-8; no bytes where the character has no text
abbrev pub bytes_of : Option BfString → List ℕ
bytes_of None = []
bytes_of (Some text) = utf8_of text

-- a character whose text begins at this offset
abbrev pub character_seen : ℕ → Character → ExtractedCharacter
character_seen start character = record {
  code = record {
    code = character.code.code;
    cid = unwrap_or character.cid 0;
    byte_len = character.code.byte_len;
    in_codespace = from_bool character.code.in_codespace;
    has_cid = from_bool (is_some character.cid);
    cut_short = from_bool character.code.cut_short;
  };
  has_text = from_bool (is_some character.text);
  text_start = start;
  text_len = length (bytes_of character.text);
}

-- characters with consecutive texts, from this offset on
abbrev pub characters_seen : ℕ → List Character → List ExtractedCharacter
characters_seen start [] = []
characters_seen start (character ∷ characters) = character_seen start character ∷ characters_seen (start + length (bytes_of character.text)) characters

abbrev pub texts_of : List Character → List ℕ
texts_of characters = flat_map (λ character. bytes_of character.text) characters

-- the string begins with a character whose text doesn't fit in the buffer
pub record PassesRoom (font : Font) (string : List ℕ) (room : ℕ) : Type 0 where
  pub character : Character
  pub is_next : IsNextCharacter font string character
  pub passes : room < length (bytes_of character.text)

-- the reason why no more characters are made: the string ends, a buffer is full, or memory ran out, which is possible for a text of more than one character
abbrev pub IsEnd : Font → List ℕ → List ExtractedCharacter → List ℕ → Extracted → ℕ → Type 0
IsEnd font string codes text extracted status = let left = drop extracted.taken string in
    ((status ≡ number Done) × (extracted.taken ≡ length string))
    ⊎ ((status ≡ number NoRoom) × (extracted.taken < length string) × ((extracted.made ≡ length codes) ⊎ PassesRoom font left (length text - extracted.used)))
    ⊎ ((status ≡ number NoMemory) × BeginsWithLongText font left)

-- the first characters of the string stand at the head of one buffer, and their texts at the head of another; the rest of each buffer is unchanged
pub record IsExtracted (font : Font) (string : List ℕ) (old new : List ExtractedCharacter) (old_text new_text : List ℕ) (extracted : Extracted) (status : ℕ) : Type 0 where
  pub found : List Character
  pub characters : BeginsWithCharacters font string found (drop extracted.taken string)
  pub within : extracted.taken ≤ length string
  pub count : extracted.made ≡ length found
  pub used : extracted.used ≡ length (texts_of found)
  pub written : new ≡ characters_seen 0 found ++ drop extracted.made old
  pub texts : new_text ≡ texts_of found ++ drop extracted.used old_text
  pub end : IsEnd font string old old_text extracted status

-- the font with the maps of three handles; a handle without a map counts as a map that the font doesn't have
abbrev pub font_given : List Layer → Option (List Layer) → Option (List Layer) → Font
font_given encoding to_unicode collection = record { encoding = encoding; to_unicode = to_unicode; collection = collection }
