-- The text of a character code. ISO 32000-1, 9.10.2.
use Rattle.std.specs.Prelude.{◌≡◌, ℕ, List, Option, Some, None, option_and_then, option_map}
use Rattle.std.specs.Option.{option_or}
use Rattle.cmap_tokens.specs.Texts.{Text, more, text_of_characters}
use Rattle.cmap_layers.specs.Layers.{Layer}
use Rattle.cmap_layers.specs.Lookups.{bf_of}
use Rattle.cmap_unicode.specs.Cids.{declared_cid}

-- the font's CMap, its ToUnicode CMap, and the map from the CIDs of its character collection to Unicode; the last two may be absent
pub record Font : Type 0 where
  pub encoding : List Layer
  pub to_unicode : Option (List Layer)
  pub collection : Option (List Layer)

-- the text that a map gives to a code, by the code's number alone; None if the map is absent, if no declaration contains the code, and if the deciding declaration is empty or malformed
abbrev pub text_in : Option (List Layer) → ℕ → Option Text
text_in map code = option_map text_of_characters (option_and_then (λ layers. bf_of layers code) map)

-- the text of a code of len bytes, whether it lies in a codespace range or not
pub data IsTextOf (font : Font) (code len : ℕ) : Option Text → Type 0 where
  -- the ToUnicode CMap converts the code to Unicode
  by_code : (text : Text) → text_in font.to_unicode code ≡ Some text → IsTextOf font code len (Some text)
  -- the ToUnicode CMap doesn't: the font's CMap maps the code to a CID, which may be the CID of a notdef, and the map of the character collection maps the CID to Unicode
  by_cid : (cid : ℕ) (text : Text) → text_in font.to_unicode code ≡ None → declared_cid font.encoding code len ≡ Some cid → text_in font.collection cid ≡ Some text
      → IsTextOf font code len (Some text)
  -- neither map gives a text: there is no way to determine what the code represents
  unknown : text_in font.to_unicode code ≡ None → ((cid : ℕ) → declared_cid font.encoding code len ≡ Some cid → text_in font.collection cid ≡ None)
      → IsTextOf font code len None

-- the code has a text of more than one character, which takes memory
abbrev pub HasLongText : Font → ℕ → ℕ → Type 0
HasLongText font code len = (characters : List ℕ) × IsTextOf font code len (Some (more characters))

-- ---- private aid
-- the text of a code with this CID
abbrev pub text_of : Font → ℕ → Option ℕ → Option Text
text_of font code cid = option_or (text_in font.to_unicode code) (option_and_then (text_in font.collection) cid)
