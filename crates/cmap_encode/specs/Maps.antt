-- The maps by which the codes of a font are chosen.
use Rattle.std.specs.Prelude.{◌≡◌, ℕ, Bool, if◌then◌else◌, nat_lt, List, length, MatchOption, Option, None, Some, option_and_then, option_map}
use Rattle.cmap_values.specs.CodeLengths.{length_of}
use Rattle.cmap_layers.specs.Layers.{Layer}
use Rattle.cmap_layers.specs.LayersSeen.{layers_seen}
use Rattle.cmap_unicode.specs.Characters.{font_of}
use Rattle.cmap_unicode.specs.TextsOfCodes.{Font}
use Rattle.cmap_encode.specs.Forms.{IsFormOf, code_in}
use Rattle.cmap_encode.specs.Glyphs.{glyph_by, lower_of}
use Rattle.cmap_encode.specs.declared.forms.Form.{Form}
use Rattle.cmap_encode.specs.declared.maps as declared

-- a map from Unicode: the form of its codes, and its layers, of which the lower ones give codes their glyphs first
pub record Unicode : Type 0 where
  pub form : Form
  pub lower : List Layer
  pub all : List Layer

-- the font, which layers of its CMap give codes their glyphs first, the map from Unicode, if there is one, and whether that map counts only for codes that read back
pub record Maps : Type 0 where
  pub font : Font
  pub lower : List Layer
  pub unicode : Option Unicode
  pub exact : Bool

-- the lower layers of a font's CMap lie under others
abbrev pub is_turned : Maps → Bool
is_turned maps = nat_lt (length maps.lower) (length maps.font.encoding)

-- the map from Unicode has these layers; the lower layers of the map come first if the lower layers of the font do
pub record IsUnicodeOf (layers : List Layer) (turned : Bool) (unicode : Unicode) : Type 0 where
  pub form : IsFormOf layers unicode.form
  pub lower : unicode.lower ≡ (if turned then lower_of layers else layers)
  pub all : unicode.all ≡ layers

-- the maps of a font, with these layers as the map from Unicode, if there are some; if only texts that read back count, the CIDs of a code are the CIDs by all layers
pub record AreMapsOf (font : Font) (unicode : Option (List Layer)) (exact : Bool) (maps : Maps) : Type 0 where
  pub font_is : maps.font ≡ font
  pub exact_is : maps.exact ≡ exact
  pub lower : maps.lower ≡ (if exact then font.encoding else lower_of font.encoding)
  pub from_unicode : MatchOption unicode (maps.unicode ≡ None) (λ layers. (given : Unicode) × (maps.unicode ≡ Some given) × IsUnicodeOf layers (is_turned maps) given)

-- the glyph of a code of len bytes
abbrev pub glyph_of : Maps → ℕ → ℕ → Option ℕ
glyph_of maps code len = glyph_by maps.lower maps.font.encoding code len

-- the glyph that a map from Unicode gives to a character
abbrev pub glyph_of_character : Unicode → ℕ → Option ℕ
glyph_of_character unicode c = option_and_then (λ code. glyph_by unicode.lower unicode.all code.number (length_of code.len)) (code_in unicode.form c)

-- ---- what contracts see
abbrev pub unicode_seen : declared.Unicode.Unicode → Unicode
unicode_seen unicode = record { form = unicode.form; lower = layers_seen unicode.lower.now; all = layers_seen unicode.all.now }

abbrev pub maps_seen : declared.Maps.Maps → Maps
maps_seen maps = record { font = font_of maps.font; lower = layers_seen maps.lower.now; unicode = option_map unicode_seen maps.unicode; exact = maps.exact }
