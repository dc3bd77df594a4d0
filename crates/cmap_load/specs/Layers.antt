-- Files over the files that they use: the layers of a map.
use Rattle.std.specs.Prelude.{◌≡◌, ℕ, zero, suc, List, [], ◌∷◌, ◌⊎◌, Option, Some, None, unwrap_or}
use Rattle.std.specs.List.{AllZip, last_or}
use Rattle.cmap_values.specs.Files.{File}
use Rattle.cmap_layers.specs.Layers.{Layer, layer_of}
use Rattle.cmap_text.specs.TextFiles.{IsTextFile}
use Rattle.cmap_binary.specs.Bundles.{PrefixTables}
use Rattle.cmap_binary.specs.BinaryFiles.{IsMarkedBinary, IsBinaryFile}

-- the file that bytes mean: with a bundle, bytes that are marked as a binary file are a binary file by its tables; all other bytes are a text file
abbrev pub Means : Option PrefixTables → List ℕ → File → Type 0
Means None bytes file = IsTextFile bytes file
Means (Some tables) bytes file = (IsMarkedBinary bytes × IsBinaryFile tables bytes file) ⊎ ((IsMarkedBinary bytes → ⊥) × IsTextFile bytes file)

-- the names of the files that a file of these bytes uses
abbrev pub AreUses : (List ℕ → File → Type 0) → List ℕ → List (List ℕ) → Type 0
AreUses means bytes uses = (file : File) × means bytes file × (file.uses ≡ uses)

-- a name is answered by bytes of which P holds
abbrev pub OfAnswer : {A : Type 0} → (List ℕ → Option (List ℕ) → Type 0) → (List ℕ → A → Type 0) → List ℕ → A → Type 0
OfAnswer answer P name x = (bytes : List ℕ) × answer name (Some bytes) × P bytes x

-- each of these names has layers, and the layers of the last name are the base; without names the base is empty
abbrev pub IsBase : (List ℕ → List Layer → Type 0) → List (List ℕ) → List Layer → Type 0
IsBase are_layers names base = (each : List (List Layer)) × AllZip are_layers names each × (base ≡ unwrap_or (last_or None each) [])

module _ (means : List ℕ → File → Type 0) (answer : List ℕ → Option (List ℕ) → Type 0) where
  -- the file of these bytes, over the layers of the last file that it uses; each file that it uses has layers, and no chain is longer than this
  abbrev pub AreLayers : ℕ → List ℕ → List Layer → Type 0
  AreLayers zero bytes layers = ⊥
  AreLayers (suc most) bytes layers = (file : File) × (base : List Layer) × means bytes file
      × IsBase (OfAnswer answer (AreLayers most)) file.uses base × (layers ≡ layer_of file ∷ base)
