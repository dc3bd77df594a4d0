-- The contents of the segments of metadata.
use Rattle.std.specs.Prelude.{ℕ, ◌+◌, List, [], ◌∷◌, ◌++◌, Option, Some, None, length}
use Rattle.cmap_values.specs.Metadata.{Collection, FileMetadata}
use Rattle.cmap_values.specs.Names.{ordering_of, registry_of}
use Rattle.cmap_binary.specs.BinaryFiles.{Content, sets_collection, sets_mode, sets_name}

-- the contents for an optional value
abbrev pub from_option : {A : Type 0} → (A → Content) → Option A → List Content
from_option say None = []
from_option say (Some x) = say x ∷ []

abbrev pub metadata_contents : FileMetadata → List Content
metadata_contents m = from_option sets_collection m.collection ++ (from_option sets_name m.name ++ from_option (λ mode. sets_mode (Some mode)) m.mode)

-- the number of bytes of the payload for a collection: the registry and the ordering, each with a byte that ends it, and two bytes for the supplement
abbrev pub collection_len : Collection → ℕ
collection_len collection = length (registry_of collection.family) + 1 + (length (ordering_of collection.family) + 1) + 2
