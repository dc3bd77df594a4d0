-- Private aid: the characters of a string, made one by one.
use Rattle.std.specs.Prelude.{◌≡◌, ℕ, ◌+◌, ◌<◌, ◌≤◌, List, [], ◌++◌, drop, length, take}
use Rattle.cmap_unicode.specs.Characters.{BeginsWithLongText, IsNextCharacter}
use Rattle.cmap_unicode.specs.TextsOfCodes.{Font}
use Rattle.cmap_unicode.specs.declared.extractor.Character.{Character}
use Rattle.cmap_c.specs.Extracted.{PassesRoom, bytes_of, character_seen}
use Rattle.cmap_c.specs.declared.extract.ExtractedCharacter.{ExtractedCharacter}
use Rattle.cmap_handles.specs.declared.status.Status.{Status}
use Rattle.cmap_handles.specs.declared.status.Status.TheVariants.{Done, NoMemory, NoRoom}

-- bytes stand at an offset of a buffer, and the rest of the buffer is unchanged
pub record IsPutAt (bytes : List ℕ) (start : ℕ) (old new : List ℕ) : Type 0 where
  pub within : start + length bytes ≤ length old
  pub put : new ≡ take start old ++ bytes ++ drop (start + length bytes) old

-- the next character of a string is made, and its text stands at an offset of a buffer
pub record IsMade (font : Font) (string : List ℕ) (start : ℕ) (old new : List ℕ) (made : ExtractedCharacter) : Type 0 where
  pub character : Character
  pub is_next : IsNextCharacter font string character
  pub some : 0 < character.code.byte_len
  pub fits : character.code.byte_len ≤ length string
  pub seen : made ≡ character_seen start character
  pub text : IsPutAt (bytes_of character.text) start old new

-- the reason why the next character isn't made, with `room` bytes left for its text
abbrev pub IsStop : Font → List ℕ → ℕ → Status → Type 0
IsStop font string room Done = string ≡ []
IsStop font string room NoRoom = PassesRoom font string room
IsStop font string room NoMemory = BeginsWithLongText font string
IsStop font string room _ = ⊥
