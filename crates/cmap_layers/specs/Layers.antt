-- The layers of a map.
use Rattle.std.specs.Prelude.{ℕ, List, [], ◌∷◌, Option, None, Some}
use Rattle.cmap_values.specs.Files.{FileMetadata, Lists, File}

-- a layer: the content of a file, without the names of the files that it uses
pub record Layer : Type 0 where
  pub metadata : FileMetadata
  pub lists : Lists

abbrev pub layer_of : File → Layer
layer_of file = record { metadata = file.metadata; lists = file.lists }

-- a map has at most this many layers
abbrev pub most_layers : ℕ
most_layers = 16

-- the metadata of a map: the metadata of the top file
abbrev pub top_metadata : List Layer → Option FileMetadata
top_metadata [] = None
top_metadata (top ∷ below) = Some top.metadata
