-- The answers of a handle: the answers of its map, and none without a map.
use Rattle.std.specs.Prelude.{ℕ, List, [], ◌∷◌, Option, Some, None, encode_utf8_all, map, option_and_then, option_map, slice_get}
use Rattle.std.specs.String.{string_bytes}
use Rattle.cmap_tokens.specs.declared.utf16.BfString.{BfString}
use Rattle.cmap_tokens.specs.declared.utf16.BfString.TheVariants.{Char, String}
use Rattle.cmap_values.specs.DeclarationsSeen.{codespace_seen}
use Rattle.cmap_values.specs.Files.{Codespace, FileMetadata, Mode, horizontal, vertical}
use Rattle.cmap_values.specs.Metadata.{Collection}
use Rattle.cmap_values.specs.declared.declarations.Codespace as declared
use Rattle.cmap_layers.specs.Layers.{Layer, top_metadata}
use Rattle.cmap_layers.specs.Lookups.{InCodespace, cid_of, bf_of}
use Rattle.cmap_handles.specs.declared.ranges.CodespaceRange.{CodespaceRange}

abbrev pub handle_cid : Option (List Layer) → ℕ → ℕ → Option ℕ
handle_cid map code len = option_and_then (λ m. cid_of m code len) map

abbrev pub handle_text : Option (List Layer) → ℕ → Option (List ℕ)
handle_text map code = option_and_then (λ m. bf_of m code) map

-- a codespace range of some layer of the map contains the code of len bytes
abbrev pub InHandle : Option (List Layer) → ℕ → ℕ → Type 0
InHandle None code len = ⊥
InHandle (Some map) code len = InCodespace map code len

abbrev pub handle_metadata : Option (List Layer) → Option FileMetadata
handle_metadata map = option_and_then top_metadata map

abbrev pub handle_name : Option (List Layer) → Option (List ℕ)
handle_name map = option_and_then (λ metadata. metadata.name) (handle_metadata map)

abbrev pub handle_collection : Option (List Layer) → Option Collection
handle_collection map = option_and_then (λ metadata. metadata.collection) (handle_metadata map)

abbrev pub handle_mode : Option (List Layer) → Option Mode
handle_mode map = option_and_then (λ metadata. metadata.mode) (handle_metadata map)

-- the metadata of the file of a layer, with the top layer at 0; nothing where there is no such layer
abbrev pub metadata_at : List Layer → ℕ → Option FileMetadata
metadata_at map layer = option_map (λ found. found.metadata) (slice_get map layer)

abbrev pub layer_in : Option (List Layer) → ℕ → Option Layer
layer_in map layer = option_and_then (λ layers. slice_get layers layer) map

abbrev pub layer_metadata : Option (List Layer) → ℕ → Option FileMetadata
layer_metadata map layer = option_and_then (λ layers. metadata_at layers layer) map

abbrev pub layer_name : Option (List Layer) → ℕ → Option (List ℕ)
layer_name map layer = option_and_then (λ metadata. metadata.name) (layer_metadata map layer)

abbrev pub layer_collection : Option (List Layer) → ℕ → Option Collection
layer_collection map layer = option_and_then (λ metadata. metadata.collection) (layer_metadata map layer)

abbrev pub layer_mode : Option (List Layer) → ℕ → Option Mode
layer_mode map layer = option_and_then (λ metadata. metadata.mode) (layer_metadata map layer)

-- codespace ranges in their C form
abbrev pub range_seen : Codespace → CodespaceRange
range_seen space = record { low = space.low; high = space.high; byte_len = space.len }

abbrev pub ranges_seen : List Codespace → List CodespaceRange
ranges_seen spaces = map range_seen spaces

abbrev pub spaces_seen : List declared.Codespace → List Codespace
spaces_seen spaces = map codespace_seen spaces

-- the number of a mode
abbrev pub mode_number : Option Mode → ℕ
mode_number (Some horizontal) = 0
mode_number (Some vertical) = 1
mode_number None = 2

-- the bytes of a text in UTF-8
abbrev pub utf8_of : BfString → List ℕ
utf8_of (Char c) = encode_utf8_all (c ∷ [])
utf8_of (String s) = string_bytes s
