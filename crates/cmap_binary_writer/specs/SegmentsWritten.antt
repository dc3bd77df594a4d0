-- Written segments, and the content that they have together.
use Rattle.std.specs.Prelude.{◌≡◌, ℕ, List, flat_map, map}
use Rattle.cmap_values.specs.Files.{Declaration, File}
use Rattle.cmap_binary.specs.BinaryFiles.{Content, SegmentAt, declares, file_of}
use Rattle.cmap_binary.specs.Bundles.{PrefixTables}
use Rattle.cmap_binary_writer.specs.Written.{WritesAll}

-- the bytes begin with a segment that has this content by any tables
abbrev pub SegmentByAny : List ℕ → Content × List ℕ → Type 0
SegmentByAny bytes r = (tables : PrefixTables) → SegmentAt tables bytes r

-- segments that make these declarations, in order
abbrev pub DeclareAll : (List ℕ → Content × List ℕ → Type 0) → List Declaration → List ℕ → Type 0
DeclareAll item ds bytes = (parts : List (List Declaration)) × (flat_map (λ part. part) parts ≡ ds) × WritesAll item (map declares parts) bytes

-- segments that together have the content of the file
abbrev pub IsBody : PrefixTables → List ℕ → File → Type 0
IsBody tables bytes file = (contents : List Content) × WritesAll (SegmentAt tables) contents bytes × (file_of contents ≡ file)
