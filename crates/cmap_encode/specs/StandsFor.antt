-- The codes that stand for a text, by rank, and the first of them.
use Rattle.std.specs.Prelude.{◌≡◌, ℕ, ◌==◌, ◌⊎◌, Bool, false, not, List, [], ◌∷◌, length, Option, None, Some, IsSome, IsTrue, option_and_then, option_map}
use Rattle.cmap_tokens.specs.Texts.{Text, more, one}
use Rattle.cmap_values.specs.BigEndian.{big_endian}
use Rattle.cmap_layers.specs.Layers.{Layer}
use Rattle.cmap_unicode.specs.Characters.{characters_of}
use Rattle.cmap_unicode.specs.Given.{given}
use Rattle.cmap_unicode.specs.TextsOfCodes.{text_in}
use Rattle.cmap_encode.specs.Codes.{IsWhole, code_bytes}
use Rattle.cmap_encode.specs.Strings.{IsNotAfter, IsString}
use Rattle.cmap_encode.specs.Forms.{code_in}
use Rattle.cmap_encode.specs.Maps.{Maps, Unicode, glyph_of, glyph_of_character}
use Rattle.cmap_encode.specs.Ranks.{IsFirstAmong, candidate_of}
use Rattle.cmap_encode.specs.declared.rank.Rank.{Rank}
use Rattle.cmap_encode.specs.declared.rank.Rank.TheVariants.{Stated, OwnForm, Canonical, Collection}
use Rattle.cmap_encode.specs.declared.rank.Ranked.{Ranked}

-- a map gives a code or a CID this text
pub record HasText (map : Option (List Layer)) (code : ℕ) (text : List ℕ) : Type 0 where
  pub its : Text
  pub is_text : text_in map code ≡ Some its
  pub characters : characters_of its ≡ text

-- a code that is declared has a glyph
abbrev pub IsShown : Maps → ℕ → ℕ → Type 0
IsShown maps code len = (given maps.font.encoding code len ≡ None) ⊎ IsSome (glyph_of maps code len)

-- the ToUnicode CMap has the text for the code of these bytes, which no notdef stands for
pub record IsStated (maps : Maps) (text bytes : List ℕ) : Type 0 where
  pub string : IsString bytes
  pub whole : IsWhole maps.font.encoding bytes
  pub has : HasText maps.font.to_unicode (big_endian bytes) text
  pub shown : IsShown maps (big_endian bytes) (length bytes)

-- the ToUnicode CMap has no text for the code of these bytes, whose glyph is this one
pub record IsSilent (maps : Maps) (cid : ℕ) (bytes : List ℕ) : Type 0 where
  pub string : IsString bytes
  pub whole : IsWhole maps.font.encoding bytes
  pub silent : text_in maps.font.to_unicode (big_endian bytes) ≡ None
  pub glyph : glyph_of maps (big_endian bytes) (length bytes) ≡ Some cid

-- the map from Unicode gives the character this glyph; where only codes count that read back, the collection's map has the character as its text
pub record HasGlyph (maps : Maps) (unicode : Unicode) (character cid : ℕ) : Type 0 where
  pub glyph : glyph_of_character unicode character ≡ Some cid
  pub exact : IsTrue maps.exact → text_in maps.font.collection cid ≡ Some (one character)

-- a text that is just one character
abbrev pub only_one : Text → Option ℕ
only_one (one character) = Some character
only_one (more characters) = None

abbrev pub is_other : ℕ → Option ℕ → Bool
is_other character None = false
is_other character (Some read) = not (read == character)

-- the collection's map reads the glyph as another character
abbrev pub reads_other : Maps → ℕ → ℕ → Bool
reads_other maps character cid = is_other character (option_and_then only_one (text_in maps.font.collection cid))

-- the text is one character, and the map from Unicode gives it the glyph of the code
pub record IsOfGlyph (maps : Maps) (text bytes : List ℕ) : Type 0 where
  pub unicode : Unicode
  pub has : maps.unicode ≡ Some unicode
  pub character : ℕ
  pub is_text : text ≡ character ∷ []
  pub cid : ℕ
  pub glyph : HasGlyph maps unicode character cid
  pub silent : IsSilent maps cid bytes

-- and the code is the code of the character in the form of the map
pub record IsOwnForm (maps : Maps) (text bytes : List ℕ) : Type 0 where
  pub of_glyph : IsOfGlyph maps text bytes
  pub is_code : option_map code_bytes (code_in of_glyph.unicode.form of_glyph.character) ≡ Some bytes

-- or, where the collection's map reads the glyph as another character, it is the last code of the glyph: the first is that character's
pub record IsCanonical (maps : Maps) (text bytes : List ℕ) : Type 0 where
  pub of_glyph : IsOfGlyph maps text bytes
  pub last : IsTrue (reads_other maps of_glyph.character of_glyph.cid) → (other : List ℕ) → IsSilent maps of_glyph.cid other → IsNotAfter other bytes

-- it has none, and the collection's map has the text for the glyph of the code
pub record IsCollected (maps : Maps) (text bytes : List ℕ) : Type 0 where
  pub cid : ℕ
  pub silent : IsSilent maps cid bytes
  pub has : HasText maps.font.collection cid text

-- the code of these bytes stands for the text with this rank
abbrev pub StandsFor : Maps → List ℕ → List ℕ → Rank → Type 0
StandsFor maps text bytes Stated = IsStated maps text bytes
StandsFor maps text bytes OwnForm = IsOwnForm maps text bytes
StandsFor maps text bytes Canonical = IsCanonical maps text bytes
StandsFor maps text bytes Collection = IsCollected maps text bytes

-- it is the first of the codes that stand for the text, by rank, then by the number of bytes, then by the bytes; or none does
abbrev pub IsOwn : Maps → List ℕ → Option Ranked → Type 0
IsOwn maps text found = IsFirstAmong (λ candidate. StandsFor maps text candidate.bytes candidate.rank) (option_map candidate_of found)
