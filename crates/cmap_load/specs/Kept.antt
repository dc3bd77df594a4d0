-- Private aid: files that were read past their faults, each once.
use Rattle.std.specs.Prelude.{◌≡◌, ℕ, List, [], false, length, map, Option, Some, None, slice_get}
use Rattle.std.specs.BTreeMap.{get_by}
use Rattle.std.specs.Ordering.{nat_cmp}
use Rattle.std.specs.Global.{Vec}
use Rattle.cmap_values.specs.Files.{File}
use Rattle.cmap_values.specs.ListsAppended.{no_file}
use Rattle.cmap_values.specs.declared.fault.Stop.{Stop}
use Rattle.cmap_layers.specs.Layers.{Layer, layer_of}
use Rattle.cmap_load.specs.Budgets.{IsOver}
use Rattle.cmap_load.specs.Graphs.{IsFileOf}
use Rattle.cmap_load.specs.declared.graph.Graph.{Graph}
use Rattle.cmap_load.specs.declared.table.Table.{Table}
use Rattle.cmap_load.specs.Loads.{IsSet}
use Rattle.cmap_load.specs.Maps.{most_files}
use Rattle.cmap_load.specs.Numbers.{text_at}
use Rattle.cmap_load.specs.Salvage.{Found, NamedFault, Opening, Reading, SalvagesOver, list_each}
use Rattle.cmap_load.specs.Tables.{HasTexts, IsTable, contents_layer, file_of}
use Rattle.cmap_load.specs.declared.graph.Node.{Node}
use Rattle.cmap_load.specs.declared.salvage.kept.KeptFiles.{KeptFiles}
use Rattle.cmap_load.specs.declared.salvage.kept.Known.{Known}
use Rattle.cmap_load.specs.declared.salvage.kept.Known.TheVariants as known
use Rattle.cmap_load.specs.declared.salvage.walk.Unread.{Unread}
use Rattle.cmap_load.specs.declared.table.Contents.{Contents}

-- a file that a name leads to: the index of a file that was read, or the length of a file that exceeds the budget
pub data Stored : Type 0 where
  at : ℕ → Stored
  too_long : ℕ → Stored

-- ---- the files
-- the texts of the names, the files, the faults of each file, and the lengths of the files that exceed the budget, by the numbers of their names
pub record Files : Type 0 where
  pub texts : List (List ℕ)
  pub table : Table
  pub stops : List (Option (Vec Stop))
  pub long_at : ℕ → Option ℕ

abbrev pub files_of : {N : Type 0} → (N → List (List ℕ)) → KeptFiles N → Files
files_of texts kept = record { texts = texts kept.load.list; table = kept.load.table; stops = kept.stops.items; long_at = λ name. get_by (λ other. nat_cmp name other) kept.too_long }

abbrev pub length_of : Option Node → ℕ
length_of None = 0
length_of (Some node) = node.length

abbrev pub uses_in : List (List ℕ) → Option Node → List (List ℕ)
uses_in texts None = []
uses_in texts (Some node) = map (text_at texts) node.uses.items

abbrev pub file_with : Option Contents → List (List ℕ) → File
file_with None uses = no_file
file_with (Some contents) uses = file_of contents uses

-- the layer of the contents at an index; without contents, an empty layer
abbrev pub layer_with : Option Contents → Layer
layer_with None = layer_of no_file
layer_with (Some contents) = contents_layer contents

abbrev pub layer_in : List Contents → Option ℕ → Layer
layer_in contents None = layer_of no_file
layer_in contents (Some i) = layer_with (slice_get contents i)

module _ (files : Files) where
  -- a file was read at this index
  abbrev pub IsReadAt : ℕ → Type 0
  IsReadAt i = (stops : Vec Stop) × (slice_get files.stops i ≡ Some (Some stops))

  -- the file at an index; without an index, an empty file
  abbrev pub file_at : Option ℕ → File
  file_at None = no_file
  file_at (Some i) = file_with (slice_get files.table.contents.items i) (uses_in files.texts (slice_get files.table.graph.nodes.items i))

  abbrev pub layers_on : List (Option ℕ) → List Layer
  layers_on path = map (layer_in files.table.contents.items) path

  -- the names, the files and their faults are right
  pub record AreKept : Type 0 where
    pub table : IsTable files.table
    pub texts_are : HasTexts files.texts files.table.graph
    pub stops : length files.stops ≡ length files.table.graph.nodes.items

  -- ---- names
  abbrev pub IsFound : ℕ → Option ℕ → Known → Type 0
  IsFound name left (known.Read i) = IsFileOf files.table.graph name i × IsReadAt i
  IsFound name left (known.TooLong count) = (files.long_at name ≡ Some count) × IsOver left count
  IsFound name left known.Nothing = (i : ℕ) × IsFileOf files.table.graph name i × (slice_get files.stops i ≡ Some None)
  IsFound name left known.Wanted = slice_get files.table.graph.found.items name ≡ Some None

  -- ---- a walk
  abbrev pub size : Stored → ℕ
  size (at i) = length_of (slice_get files.table.graph.nodes.items i)
  size (too_long count) = count

  abbrev pub IsPast : Stored → File → List Stop → Type 0
  IsPast (at i) file stops = (listed : Vec Stop) × (slice_get files.stops i ≡ Some (Some listed)) × (file ≡ file_at (Some i)) × (stops ≡ listed.items)
  IsPast (too_long count) file stops = ⊥

  abbrev pub IsAnswer : List ℕ → Option Stored → Type 0
  IsAnswer name None = (number i : ℕ) × (slice_get files.texts number ≡ Some name) × IsFileOf files.table.graph number i × (slice_get files.stops i ≡ Some None)
  IsAnswer name (Some (at i)) = (number : ℕ) × (slice_get files.texts number ≡ Some name) × IsFileOf files.table.graph number i × IsReadAt i
  IsAnswer name (Some (too_long count)) = (number : ℕ) × (slice_get files.texts number ≡ Some name) × (files.long_at number ≡ Some count)

  -- the files are the sources, and give the answers
  abbrev pub Over : ℕ → List (List ℕ) → Stored → Opening → Found → Type 0
  Over = SalvagesOver size IsPast IsAnswer

  -- the layers and the faults of the top file over the files that it uses
  pub record IsSalvaged (budget : Option ℕ) (layers : List Layer) (faults : List NamedFault) : Type 0 where
    pub readings : List Reading
    pub after : Opening
    pub over : Over most_files [] (at 0) (record { left = budget; closed = false }) (record { layers = layers; readings = readings; after = after })
    pub listed : faults ≡ list_each [] readings

-- the file of a name is wanted
abbrev pub IsWanted : Graph → Unread → Type 0
IsWanted graph unread = slice_get graph.found.items unread.name ≡ Some None

-- the names, the files and their faults are right, and each name is found
pub record IsKept {N : Type 0} (texts : N → List (List ℕ)) (are_numbered : N → Type 0) (kept : KeptFiles N) : Type 0 where
  pub set : IsSet texts are_numbered kept.load
  pub stops : length kept.stops.items ≡ length kept.load.table.graph.nodes.items
