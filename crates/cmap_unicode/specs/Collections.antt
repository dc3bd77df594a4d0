-- The names of the maps from the CIDs of character collections to Unicode. ISO 32000-1, 9.10.2.
use Rattle.std.specs.Prelude.{ℕ, List, [], ◌∷◌, ◌++◌, Option, None, codes, option_map}
use Rattle.std.specs.Option.{option_or}
use Rattle.cmap_values.specs.Names.{Family, ordering_of, registry_of}
use Rattle.cmap_layers.specs.Layers.{Layer}

-- registry-ordering-UCS2
abbrev pub ucs2_name_of : Family → List ℕ
ucs2_name_of family = registry_of family ++ codes "-" ++ ordering_of family ++ codes "-UCS2"

-- the family of the character collection of the first layer that has one
abbrev pub family_in : List Layer → Option Family
family_in [] = None
family_in (layer ∷ layers) = option_or (option_map (λ collection. collection.family) layer.metadata.collection) (family_in layers)

-- the name of the map of that character collection
abbrev pub collection_name_of : List Layer → Option (List ℕ)
collection_name_of layers = option_map ucs2_name_of (family_in layers)
