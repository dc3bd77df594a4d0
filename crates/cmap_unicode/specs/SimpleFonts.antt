-- The codes of simple fonts: each has one byte. ISO 32000-1, 9.6.1.
use Rattle.std.specs.Prelude.{[], ◌∷◌, None}
use Rattle.cmap_values.specs.Files.{Declaration, lists_of}
use Rattle.cmap_layers.specs.Layers.{Layer}

-- the codes <00> to <FF>, which have no CIDs and no texts
abbrev pub one_byte_layer : Layer
one_byte_layer = record {
  metadata = record { collection = None; name = None; mode = None };
  lists = lists_of (Declaration.codespace (record { len = 1; low = 0; high = 0xFF }) ∷ []);
}
