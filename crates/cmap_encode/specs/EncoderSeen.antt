-- What contracts see of an encoder.
use Rattle.std.specs.Prelude.{◌≡◌, Bool, List, Option, map}
use Rattle.cmap_layers.specs.Layers.{Layer}
use Rattle.cmap_unicode.specs.TextsOfCodes.{Font}
use Rattle.cmap_encode.specs.IndexSeen.{IsIndexOf}
use Rattle.cmap_encode.specs.Maps.{AreMapsOf, Maps}
use Rattle.cmap_encode.specs.StringsOfCodes.{only_spaces}
use Rattle.cmap_encode.specs.declared.encoder.Encoder.{Encoder}

-- the encoder was built over the maps: it has the own code for each text, the condition whether only texts that read back count, and the codespace ranges of the font
pub record IsEncoderOf (maps : Maps) (encoder : Encoder) : Type 0 where
  pub index : IsIndexOf maps encoder.choices.index
  pub exact : encoder.choices.exact ≡ maps.exact
  pub codespaces : encoder.codespaces ≡ map only_spaces maps.font.encoding

-- the encoder was built over the maps of a font with this map from Unicode
pub record IsEncoderFor (font : Font) (unicode : Option (List Layer)) (exact : Bool) (encoder : Encoder) : Type 0 where
  pub maps : Maps
  pub are : AreMapsOf font unicode exact maps
  pub encoder_of : IsEncoderOf maps encoder
