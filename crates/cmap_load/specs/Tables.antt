-- Private aid: the files that were read, the texts of the names that they use, and their layers.
use Rattle.std.specs.Prelude.{◌≡◌, ℕ, zero, suc, ◌⊎◌, List, [], ◌∷◌, ◌++◌, MatchOption, length, map, Option, Some, None, slice_get, slice_set}
use Rattle.cmap_values.specs.DeclarationsSeen.{lists_seen}
use Rattle.cmap_values.specs.Files.{File}
use Rattle.cmap_values.specs.MetadataSeen.{metadata_seen}
use Rattle.cmap_values.specs.NamesSeen.{names_seen}
use Rattle.cmap_values.specs.declared.file.File as parsed
use Rattle.cmap_binary.specs.Bundles.{PrefixTables}
use Rattle.cmap_layers.specs.Layers.{Layer}
use Rattle.cmap_load.specs.Graphs.{AreNamed, IsFileOf, IsGraph, IsKept}
use Rattle.cmap_load.specs.Loading.{Answer, MeansOnly, OfBytes, bytes_at, first_answer}
use Rattle.cmap_load.specs.Numbers.{AreDistinct, IsMore, text_at}
use Rattle.cmap_load.specs.declared.graph.Graph.{Graph}
use Rattle.cmap_load.specs.declared.graph.Node.{Node}
use Rattle.cmap_load.specs.declared.table.Contents.{Contents}
use Rattle.cmap_load.specs.declared.table.Table.{Table}

-- the file of these contents and uses
abbrev pub file_of : Contents → List (List ℕ) → File
file_of contents uses = record { metadata = metadata_seen contents.metadata; lists = lists_seen contents.lists; uses = uses }

-- the layer of these contents
abbrev pub contents_layer : Contents → Layer
contents_layer contents = record { metadata = metadata_seen contents.metadata; lists = lists_seen contents.lists }

-- ---- tables
-- the entries of a table are right
pub record IsTable (table : Table) : Type 0 where
  pub graph : IsGraph table.graph
  pub contents : length table.contents.items ≡ length table.graph.nodes.items

-- each name of a graph has a text of its own
pub record HasTexts (texts : List (List ℕ)) (graph : Graph) : Type 0 where
  pub long : length graph.found.items ≡ length texts
  pub distinct : AreDistinct texts

-- a table without files
pub record IsEmpty (budget : Option ℕ) (table : Table) : Type 0 where
  pub is_table : IsTable table
  pub found : table.graph.found.items ≡ []
  pub nodes : table.graph.nodes.items ≡ []
  pub within : table.graph.budget ≡ budget

-- a table may have more names, and has no further files
pub record Grows (old new : Table) : Type 0 where
  pub graph : IsKept old.graph new.graph
  pub contents : new.contents.items ≡ old.contents.items

-- a name has no file yet
abbrev pub IsNew : Graph → Option ℕ → Type 0
IsNew graph None = Unit {0}
IsNew graph (Some name) = slice_get graph.found.items name ≡ Some None

-- the last file is the file of a name; the top file has no name
pub record IsPushed (old new : Table) (name : Option ℕ) (node : Node) (contents : Contents) : Type 0 where
  pub nodes : new.graph.nodes.items ≡ old.graph.nodes.items ++ node ∷ []
  pub contents_are : new.contents.items ≡ old.contents.items ++ contents ∷ []
  pub found : MatchOption name (new.graph.found ≡ old.graph.found) (λ name. new.graph.found.items ≡ slice_set old.graph.found.items name (Some (length old.graph.nodes.items)))
  pub budget : new.graph.budget ≡ old.graph.budget

-- the contents of a file of so many bytes are added; the names that it uses have these texts
pub record IsAdded (before after : List (List ℕ)) (old new : Table) (name : Option ℕ) (count : ℕ) (file : parsed.File) : Type 0 where
  pub mid : Table
  pub grows : Grows old mid
  pub more : IsMore before after
  pub table : IsTable mid
  pub texts : HasTexts after mid.graph
  pub node : Node
  pub long : node.length ≡ count
  pub named : AreNamed mid.graph node.uses.items
  pub uses : map (text_at after) node.uses.items ≡ names_seen file.uses.items
  pub pushed : IsPushed mid new name node (record { metadata = file.metadata; lists = file.lists })

-- ---- answers
module _ (tables : Option PrefixTables) (answers : List Answer) (texts : List (List ℕ)) (table : Table) where
  -- the files of a table, whose names have these texts, are the files of these answers, in order
  pub record Shows : Type 0 where
    pub long : length answers ≡ length table.graph.nodes.items
    pub files : (i : ℕ) (node : Node) (contents : Contents) → slice_get table.graph.nodes.items i ≡ Some node → slice_get table.contents.items i ≡ Some contents
        → OfBytes (bytes_at answers i) (λ bytes. (length bytes ≡ node.length) × MeansOnly tables bytes (file_of contents (map (text_at (texts)) node.uses.items)))
    pub found : (name i : ℕ) → IsFileOf table.graph name i → first_answer answers (text_at (texts) name) ≡ Some (bytes_at answers i)
    pub none : (name : ℕ) → slice_get table.graph.found.items name ≡ Some None → first_answer answers (text_at (texts) name) ≡ None
    pub known : (text : List ℕ) (bytes : Option (List ℕ)) → first_answer answers text ≡ Some bytes → (name : ℕ) × (slice_get (texts) name ≡ Some text)

-- ---- layers
module _ (table : Table) where
  -- the layers under a file: the layers of the file of its last use
  abbrev pub LayersUnder : (ℕ → List Layer → Type 0) → List ℕ → List Layer → Type 0
  LayersUnder layers uses below = ((uses ≡ []) × (below ≡ [])) ⊎ ((others : List ℕ) × (last i : ℕ) × (uses ≡ others ++ last ∷ []) × IsFileOf table.graph last i × layers i below)

  -- the layers of the file at an index, at most so many
  abbrev pub LayersFrom : ℕ → ℕ → List Layer → Type 0
  LayersFrom zero i layers = ⊥
  LayersFrom (suc most) i layers = (node : Node) × (contents : Contents) × (below : List Layer) × (slice_get table.graph.nodes.items i ≡ Some node) × (slice_get table.contents.items i ≡ Some contents)
      × LayersUnder (LayersFrom most) node.uses.items below × (layers ≡ contents_layer contents ∷ below)
