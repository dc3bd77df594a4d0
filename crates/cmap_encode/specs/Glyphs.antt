-- The CID by which a code is chosen: its glyph, which is no notdef.
use Rattle.std.specs.Prelude.{ℕ, zero, suc, nat_lt, ◌||◌, Bool, true, false, List, [], ◌∷◌, length, Option, None, Some, option_and_then, if◌then◌else◌}
use Rattle.std.specs.Option.{option_or}
use Rattle.cmap_values.specs.Files.{Mode, horizontal, vertical}
use Rattle.cmap_layers.specs.Layers.{Layer}
use Rattle.cmap_unicode.specs.Given.{cid_given, given}

-- CID 0 is the CID of the notdef
abbrev pub glyph_of_cid : ℕ → Option ℕ
glyph_of_cid zero = None
glyph_of_cid (suc n) = Some (suc n)

-- the CID that layers declare for a code of len bytes as a CID
abbrev pub glyph_in : List Layer → ℕ → ℕ → Option ℕ
glyph_in layers code len = option_and_then glyph_of_cid (cid_given (given layers code len))

-- the glyph by the lower layers, or else by all layers
abbrev pub glyph_by : List Layer → List Layer → ℕ → ℕ → Option ℕ
glyph_by lower all code len = option_or (glyph_in lower code len) (glyph_in all code len)

-- ---- which layers are the lower ones
abbrev is_mode_vertical : Option Mode → Bool
is_mode_vertical (Some vertical) = true
is_mode_vertical (Some horizontal) = false
is_mode_vertical None = false

abbrev pub is_vertical : Layer → Bool
is_vertical layer = is_mode_vertical layer.metadata.mode

abbrev pub declares_cids : Layer → Bool
declares_cids layer = nat_lt 0 (length layer.lists.cids.one) || nat_lt 0 (length layer.lists.cids.two) || nat_lt 0 (length layer.lists.cids.three) || nat_lt 0 (length layer.lists.cids.four)

-- the layers that are left under the vertical layers on top, if one of these vertical layers or a layer before them declares CIDs; else all layers
abbrev pub lower_from : Bool → List Layer → List Layer → List Layer
lower_from declared all [] = all
lower_from declared all (layer ∷ below) = if is_vertical layer then lower_from (declared || declares_cids layer) all below else if declared then layer ∷ below else all

-- the layers under the layers on top with writing mode 1, if one of these declares CIDs and others lie under them, so that a vertical font has the codes of its horizontal font; else all layers
abbrev pub lower_of : List Layer → List Layer
lower_of layers = lower_from false layers layers
