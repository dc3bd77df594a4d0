-- The answers that a loader was given that reads past faults, and its results.
use Rattle.std.specs.Prelude.{◌≡◌, ℕ, ◌+◌, ◌<◌, ◌≤◌, Bool, true, false, List, [], ◌∷◌, ◌++◌, All, Contains, length, Option, Some, None, map, slice_get}
use Rattle.std.specs.Global.{Vec}
use Rattle.cmap_values.specs.declared.fault.Stop.{Stop}
use Rattle.cmap_values.specs.declared.file.File as parsed
use Rattle.cmap_binary.specs.Bundles.{PrefixTables}
use Rattle.cmap_load.specs.Graphs.{IsBegun, IsFileOf}
use Rattle.cmap_load.specs.Loading.{Agrees, Answer, bytes_at}
use Rattle.cmap_load.specs.Numbers.{IsMore, text_at}
use Rattle.cmap_load.specs.Salvage.{IsReadPast, NamedFault, SalvagesMap}
use Rattle.cmap_load.specs.Kept.{Files, IsKept, IsReadAt, Stored, IsSalvaged, IsWanted, file_at, files_of, layers_on, size}
use Rattle.cmap_load.specs.SalvageSeen.{AreNamed, fault_named}
use Rattle.cmap_load.specs.Tables.{IsAdded, IsEmpty}
use Rattle.cmap_load.specs.declared.salvage.kept.KeptFiles.{KeptFiles}
use Rattle.cmap_load.specs.declared.salvage.kept.Progress.{Progress}
use Rattle.cmap_load.specs.declared.salvage.kept.Progress.TheVariants as progress
use Rattle.cmap_load.specs.declared.salvage.loader.SalvageLoader.{SalvageLoader}
use Rattle.cmap_load.specs.declared.faults.FoundFault.{FoundFault}
use Rattle.cmap_layers.specs.Layers.{Layer}

-- ---- answers
-- a name was answered with these bytes
abbrev pub IsGiven : List Answer → List ℕ → Option (List ℕ) → Type 0
IsGiven answers name bytes = Contains answers (record { name = Some name; bytes = bytes })

-- ---- files
-- the file at an index is the file of these bytes
pub record IsOf (tables : Option PrefixTables) (files : Files) (i : ℕ) (bytes : List ℕ) : Type 0 where
  pub long : size files (Stored.at i) ≡ length bytes
  pub past : (stops : Vec Stop) → slice_get files.stops i ≡ Some (Some stops) → IsReadPast tables bytes (file_at files (Some i)) stops.items

-- the files are what these answers give; the top file has these bytes
pub record AreOf (tables : Option PrefixTables) (answers : List Answer) (top : List ℕ) (files : Files) : Type 0 where
  pub first : IsOf tables files 0 top
  pub some : 0 < length files.table.graph.nodes.items
  pub read : (number i : ℕ) (text : List ℕ) → slice_get files.texts number ≡ Some text → IsFileOf files.table.graph number i → IsReadAt files i → (bytes : List ℕ) × IsGiven answers text (Some bytes) × IsOf tables files i bytes
  pub none : (number i : ℕ) (text : List ℕ) → slice_get files.texts number ≡ Some text → IsFileOf files.table.graph number i → slice_get files.stops i ≡ Some None → IsGiven answers text None
  pub long : (number count : ℕ) → files.long_at number ≡ Some count → (text bytes : List ℕ) × (slice_get files.texts number ≡ Some text) × IsGiven answers text (Some bytes) × (count ≡ length bytes)

pub record HasNoFiles {N : Type 0} (texts : N → List (List ℕ)) (are_numbered : N → Type 0) (budget : Option ℕ) (files : KeptFiles N) : Type 0 where
  pub kept : IsKept texts are_numbered files
  pub none : texts files.load.list ≡ []
  pub table : IsEmpty budget files.load.table
  pub long : (number : ℕ) → (files_of texts files).long_at number ≡ None

-- a file is added, with these faults
pub record IsKeptMore (old new : Files) (name : Option ℕ) (count : ℕ) (file : parsed.File) (listed : Option (Vec Stop)) : Type 0 where
  pub added : IsAdded old.texts new.texts old.table new.table name count file
  pub stops : new.stops ≡ old.stops ++ listed ∷ []
  pub long : new.long_at ≡ old.long_at

-- no answer is added
pub record Stays (old new : Files) : Type 0 where
  pub budget : new.table.graph.budget ≡ old.table.graph.budget
  pub more : IsMore old.texts new.texts
  pub found : (number : ℕ) (file : Option ℕ) → slice_get old.table.graph.found.items number ≡ Some file → slice_get new.table.graph.found.items number ≡ Some file
  pub begun : IsBegun old.table.graph → IsBegun new.table.graph
  pub top : IsReadAt old 0 → IsReadAt new 0
  pub reads : (tables : Option PrefixTables) (answers : List Answer) (top : List ℕ) → AreOf tables answers top old → AreOf tables answers top new

-- an answer is added
pub record AddsAnswer (tables : Option PrefixTables) (old new : Files) (number : ℕ) (bytes : Option (List ℕ)) : Type 0 where
  pub budget : new.table.graph.budget ≡ old.table.graph.budget
  pub files : length new.table.graph.nodes.items ≡ length old.table.graph.nodes.items + 1
  pub reads : (answers : List Answer) (top : List ℕ) → AreOf tables answers top old → AreOf tables (answers ++ record { name = Some (text_at old.texts number); bytes = bytes } ∷ []) top new

abbrev pub Adds : Option PrefixTables → Files → Files → Option ℕ → Option (List ℕ) → Type 0
Adds tables old new None None = ⊥
Adds tables old new None (Some bytes) = (new.table.graph.budget ≡ old.table.graph.budget)
    × (old.table.graph.nodes.items ≡ [] → ((number : ℕ) → old.long_at number ≡ None) → AreOf tables (record { name = None; bytes = Some bytes } ∷ []) bytes new)
Adds tables old new (Some number) bytes = AddsAnswer tables old new number bytes

-- ---- progress
-- no more names lead to a fault than files may stand in a chain
abbrev pub AreFew : List FoundFault → Type 0
AreFew faults = All (λ fault. length fault.names.items ≤ 16) faults

-- the progress is possible with these files
abbrev pub Follows : Files → Progress → Type 0
Follows files (progress.Wanted unread) = IsBegun files.table.graph × IsReadAt files 0 × IsWanted files.table.graph unread
Follows files progress.Open = IsBegun files.table.graph × IsReadAt files 0
Follows files (progress.Found found) = (0 < length found.path.items) × (length found.path.items ≤ 16) × AreNamed files.texts found.faults.items × AreFew found.faults.items

-- the progress is what a walk finds
abbrev pub Walks : Files → Progress → Type 0
Walks files (progress.Wanted unread) = Unit {0}
Walks files progress.Open = ⊥
Walks files (progress.Found found) = IsSalvaged files files.table.graph.budget (layers_on files found.path.items) (map (fault_named files.texts) found.faults.items)

-- the files, or the layers and the faults of the top file, are what the answers give
abbrev pub IsReady : Option PrefixTables → List Answer → List ℕ → Files → Progress → Type 0
IsReady tables answers top files (progress.Wanted unread) = AreOf tables answers top files
IsReady tables answers top files progress.Open = AreOf tables answers top files
IsReady tables answers top files (progress.Found found) = SalvagesMap tables (IsGiven answers) top files.table.graph.budget (layers_on files found.path.items) (map (fault_named files.texts) found.faults.items)

abbrev pub faults_by : Progress → List FoundFault
faults_by (progress.Wanted unread) = []
faults_by progress.Open = []
faults_by (progress.Found found) = found.faults.items

abbrev pub wanted_by : List (List ℕ) → Progress → Option (List ℕ)
wanted_by texts (progress.Wanted unread) = Some (text_at texts unread.name)
wanted_by texts progress.Open = None
wanted_by texts (progress.Found found) = None

abbrev pub is_found : Progress → Bool
is_found (progress.Wanted unread) = false
is_found progress.Open = false
is_found (progress.Found found) = true

-- ---- loaders
module _ {N : Type 0} where
  abbrev pub budget_in : SalvageLoader N → Option ℕ
  budget_in loader = loader.files.load.table.graph.budget

  -- how many entries the answers have; an answer adds one
  abbrev pub files_read : SalvageLoader N → ℕ
  files_read loader = length loader.files.load.table.graph.nodes.items

  -- no further file is wanted
  abbrev pub is_settled : SalvageLoader N → Bool
  is_settled loader = is_found loader.progress

module _ {N : Type 0} (texts : N → List (List ℕ)) where
  -- the wanted name
  abbrev pub wanted_name : SalvageLoader N → Option (List ℕ)
  wanted_name loader = wanted_by (texts loader.files.load.list) loader.progress

  -- the files of a loader, and its next step, are right
  pub record IsSalvaging (are_numbered : N → Type 0) (loader : SalvageLoader N) : Type 0 where
    pub kept : IsKept texts are_numbered loader.files
    pub follows : Follows (files_of texts loader.files) loader.progress

  -- the loader was given these answers: the first file, and then the files of the wanted names, in order
  pub record ReadsPast (tables : Option PrefixTables) (answers : List Answer) (loader : SalvageLoader N) : Type 0 where
    pub top : List ℕ
    pub first : bytes_at answers 0 ≡ Some top
    pub ready : IsReady tables answers top (files_of texts loader.files) loader.progress

  -- the faults that were found
  abbrev pub faults_of : SalvageLoader N → List NamedFault
  faults_of loader = map (fault_named (texts loader.files.load.list)) (faults_by loader.progress)

  -- the layers, and the faults that were found, are those of the first file by the answers that the loader was given
  pub record IsSalvagedBy (loader : SalvageLoader N) (layers : List Layer) : Type 0 where
    pub by : (tables : Option PrefixTables) (answers : List Answer) (top : List ℕ) → ReadsPast tables answers loader → bytes_at answers 0 ≡ Some top → SalvagesMap tables (IsGiven answers) top (budget_in loader) layers (faults_of loader)

  -- the loader reads the file of these bytes within a budget, and each answer that it was given agrees with these answers
  pub record Salvages (tables : Option PrefixTables) (budget : Option ℕ) (answer : List ℕ → Option (List ℕ) → Type 0) (bytes : List ℕ) (loader : SalvageLoader N) : Type 0 where
    pub answers : List Answer
    pub reads : ReadsPast tables answers loader
    pub within : budget_in loader ≡ budget
    pub first : bytes_at answers 0 ≡ Some bytes
    pub agrees : Agrees (IsGiven answers) answer
