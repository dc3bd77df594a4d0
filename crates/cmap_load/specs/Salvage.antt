-- Files over the files that they use, where some are at fault: each is read past its faults, and reading goes on after a use that gives no file.
use Rattle.std.specs.Prelude.{◌≡◌, ℕ, zero, suc, Bool, true, false, ◌&&◌, if◌then◌else◌, List, [], ◌∷◌, ◌++◌, ◌⊎◌, bytes_eq, length, map, Option, Some, None}
use Rattle.std.specs.List.{last_or, list_any}
use Rattle.cmap_values.specs.Files.{File}
use Rattle.cmap_values.specs.ListsAppended.{no_file}
use Rattle.cmap_values.specs.Only.{IsOnly, HoldsOfNone}
use Rattle.cmap_values.specs.declared.fault.Stop.{Stop}
use Rattle.cmap_binary.specs.BinaryFiles.{IsMarkedBinary}
use Rattle.cmap_binary.specs.BinarySalvage.{SalvagesBinary}
use Rattle.cmap_binary.specs.Bundles.{HoldsTables, PrefixTables}
use Rattle.cmap_layers.specs.Layers.{Layer, layer_of}
use Rattle.cmap_text.specs.FaultyTexts.{SalvagesFile}
use Rattle.cmap_text.specs.FirstFaults.{IsFirstOf}
use Rattle.cmap_load.specs.Budgets.{IsOver}
use Rattle.cmap_load.specs.BytesSpent.{Leaves}
use Rattle.cmap_load.specs.Layers.{Means}
use Rattle.cmap_load.specs.Maps.{FitsBudget, IsMapOf, LeadsToFault, most_files}
use Rattle.cmap_load.specs.declared.refusal.Cause.{Cause}
use Rattle.cmap_load.specs.declared.refusal.Cause.TheVariants.{Malformed, NoFile, ChainLength, OverBudget}

-- a fault, and the names that lead to the file that has it
pub record NamedFault : Type 0 where
  pub names : List (List ℕ)
  pub cause : Cause

-- the files that may still be opened: files within the rest of the budget, unless a chain was too long
pub record Opening : Type 0 where
  pub left : Option ℕ
  pub closed : Bool

-- a file that is opened, or a use that opens no file: the names that lead to the file, and the causes of its faults
pub record Reading : Type 0 where
  pub names : List (List ℕ)
  pub causes : List Cause

-- the result of reading: the layers, the readings in order, and the files that may be opened afterwards
pub record Found : Type 0 where
  pub layers : List Layer
  pub readings : List Reading
  pub after : Opening

-- ---- one file
-- the file and the faults of bytes that mean no file, read past their faults
abbrev pub SalvagesBytes : Option PrefixTables → List ℕ → File → List Stop → Type 0
SalvagesBytes None bytes file stops = SalvagesFile bytes file stops
SalvagesBytes (Some tables) bytes file stops = (IsMarkedBinary bytes × SalvagesBinary tables bytes file stops) ⊎ ((IsMarkedBinary bytes → ⊥) × SalvagesFile bytes file stops)

-- the file and the faults of bytes: if the bytes mean a file, this file and no fault
abbrev pub IsReadPast : Option PrefixTables → List ℕ → File → List Stop → Type 0
IsReadPast tables bytes file stops = (IsOnly (Means tables bytes) file × (stops ≡ [])) ⊎ (HoldsOfNone (Means tables bytes) × SalvagesBytes tables bytes file stops)

module _ {A : Type 0} (size : A → ℕ) (past : A → File → List Stop → Type 0) where
  -- the file and the faults of a source within a budget, of which the rest is left: a source that would exceed the budget isn't read, and gives an empty file
  abbrev pub ReadsWithin : Option ℕ → A → File → List Cause → Option ℕ → Type 0
  ReadsWithin budget source file causes rest =
      (IsOver budget (size source) × (file ≡ no_file) × (causes ≡ OverBudget ∷ []) × (rest ≡ budget))
      ⊎ ((stops : List Stop) × Leaves budget (size source) rest × past source file stops × (causes ≡ map Malformed stops))

-- the sources are bytes
abbrev pub IsReadWithin : Option PrefixTables → Option ℕ → List ℕ → File → List Cause → Option ℕ → Type 0
IsReadWithin tables = ReadsWithin length (IsReadPast tables)

-- ---- the files that it uses
-- no layers, for this fault of the file that the names lead to
abbrev pub no_layers : List (List ℕ) → Cause → Opening → Found
no_layers names cause after = record { layers = []; readings = record { names = names; causes = cause ∷ [] } ∷ []; after = after }

-- uses one after another, from these layers on: the last use gives the layers
abbrev pub SalvagesEach : (List ℕ → List Layer → Opening → Found → Type 0) → List (List ℕ) → List Layer → Opening → Found → Type 0
SalvagesEach salvages [] base opening found = found ≡ record { layers = base; readings = []; after = opening }
SalvagesEach salvages (name ∷ names) base opening found = (first : Found) × (last : Found) × salvages name base opening first × SalvagesEach salvages names first.layers first.after last
    × (found ≡ record { layers = last.layers; readings = first.readings ++ last.readings; after = last.after })

module _ {A : Type 0} (answer : List ℕ → Option A → Type 0) (salvages : List (List ℕ) → A → Opening → Found → Type 0) where
  -- the file of this name, the last of the names that lead to it. If the chain would be too long, no further file is opened
  abbrev pub SalvagesNamed : ℕ → List (List ℕ) → List ℕ → Opening → Found → Type 0
  SalvagesNamed zero names name opening found = found ≡ no_layers names ChainLength (record { left = opening.left; closed = true })
  SalvagesNamed (suc room) names name opening found = (answer name None × (found ≡ no_layers names NoFile opening))
      ⊎ ((source : A) × answer name (Some source) × salvages names source opening found)

  -- a use in the file that the names lead to. Once a chain was too long, the use is passed over, and the layers stay
  abbrev pub SalvagesUse : ℕ → List (List ℕ) → List ℕ → List Layer → Opening → Found → Type 0
  SalvagesUse room leading name base opening found = ((opening.closed ≡ true) × (found ≡ record { layers = base; readings = []; after = opening }))
      ⊎ ((opening.closed ≡ false) × SalvagesNamed room (leading ++ name ∷ []) name opening found)

-- the answers to names are sources of files, and past tells the file and the faults of each
module _ {A : Type 0} (size : A → ℕ) (past : A → File → List Stop → Type 0) (answer : List ℕ → Option A → Type 0) where
  -- the file of this source, to which the names lead, over the layers of the last file that it uses; no chain is longer than this
  abbrev pub SalvagesOver : ℕ → List (List ℕ) → A → Opening → Found → Type 0
  SalvagesOver zero names source opening found = ⊥
  SalvagesOver (suc most) names source opening found = (file : File) × (causes : List Cause) × (rest : Option ℕ) × (below : Found) × ReadsWithin size past opening.left source file causes rest
      × SalvagesEach (SalvagesUse answer (SalvagesOver most) most names) file.uses [] (record { left = rest; closed = opening.closed }) below
      × (found ≡ record { layers = layer_of file ∷ below.layers; readings = record { names = names; causes = causes } ∷ below.readings; after = below.after })

-- the answers are bytes
abbrev pub Salvages : Option PrefixTables → (List ℕ → Option (List ℕ) → Type 0) → ℕ → List (List ℕ) → List ℕ → Opening → Found → Type 0
Salvages tables answer = SalvagesOver length (IsReadPast tables) answer

-- ---- the faults that are listed
-- these faults of the file that the names lead to
abbrev pub faults_of : List (List ℕ) → List Cause → List NamedFault
faults_of names causes = map (λ cause. record { names = names; cause = cause }) causes

abbrev pub is_same_kind : Cause → Cause → Bool
is_same_kind (Malformed stop) (Malformed other) = true
is_same_kind NoFile NoFile = true
is_same_kind ChainLength ChainLength = true
is_same_kind OverBudget OverBudget = true
is_same_kind cause other = false

abbrev pub is_name : List ℕ → Option (List ℕ) → Bool
is_name name None = false
is_name name (Some other) = bytes_eq other name

-- the fault has this kind, and this name is the last of the names that lead to its file
abbrev pub is_fault_of : List ℕ → Cause → NamedFault → Bool
is_fault_of name cause fault = is_name name (last_or None fault.names) && is_same_kind cause fault.cause

-- such a fault is listed; the top file has no name, and is opened once
abbrev pub is_listed : List NamedFault → Option (List ℕ) → Cause → Bool
is_listed listed None cause = false
is_listed listed (Some name) cause = list_any (is_fault_of name cause) listed

-- the faults of a file are listed when the file is first met
abbrev pub list_causes : List NamedFault → List (List ℕ) → List Cause → List NamedFault
list_causes listed names [] = listed
list_causes listed names (cause ∷ more) = if is_listed listed (last_or None names) cause then listed else (listed ++ faults_of names (cause ∷ more))

-- the faults of these readings, after the faults that are listed already
abbrev pub list_each : List NamedFault → List Reading → List NamedFault
list_each listed [] = listed
list_each listed (reading ∷ readings) = list_each (list_causes listed reading.names reading.causes) readings

-- ---- a refusal
-- fault is the first fault past which bytes that mean no file are read, and refusal is the fault for which they are refused; in a binary file the two are equal
abbrev pub IsFirstOfBytes : Option PrefixTables → List ℕ → Stop → Stop → Type 0
IsFirstOfBytes None bytes fault refusal = IsFirstOf bytes fault refusal
IsFirstOfBytes (Some tables) bytes fault refusal = (IsMarkedBinary bytes × (fault ≡ refusal)) ⊎ ((IsMarkedBinary bytes → ⊥) × IsFirstOf bytes fault refusal)

module _ (tables : Option PrefixTables) (answers : List ℕ → Option (List ℕ) → Type 0) (top : List ℕ) where
  -- the bytes of the file to which names lead: the last name is the name of the file, and the top file has no name
  abbrev pub IsLedTo : Option (List ℕ) → List ℕ → Type 0
  IsLedTo None bytes = bytes ≡ top
  IsLedTo (Some name) bytes = answers name (Some bytes)

  -- the file to which the names lead has this first fault, and is refused with this cause
  abbrev pub IsRefusedFor : List (List ℕ) → Cause → Cause → Type 0
  IsRefusedFor names fault (Malformed refusal) = (bytes : List ℕ) × (first : Stop) × IsLedTo (last_or None names) bytes × (fault ≡ Malformed first) × IsFirstOfBytes tables bytes first refusal
  IsRefusedFor names fault cause = fault ≡ cause

-- the tables, if there are any, are the tables of a bundle
abbrev pub AreOfBundle : Option PrefixTables → Type 0
AreOfBundle None = Unit {0}
AreOfBundle (Some tables) = (text : List ℕ) × HoldsTables text tables

-- ---- a map
module _ (tables : Option PrefixTables) (answers : List ℕ → Option (List ℕ) → Type 0) (bytes : List ℕ) (budget : Option ℕ) where
  -- the layers and the faults of a file over the files that it uses: the faults of each file are listed once, when the file is first read
  abbrev pub SalvagesMap : List Layer → List NamedFault → Type 0
  SalvagesMap layers faults = (readings : List Reading) × (after : Opening) × Salvages tables answers most_files [] bytes (record { left = budget; closed = false }) (record { layers = layers; readings = readings; after = after })
      × (faults ≡ list_each [] readings)

  -- the first fault is one for which the file is refused
  abbrev pub BeginsWithFault : List NamedFault → Type 0
  BeginsWithFault faults = (first : NamedFault) × (more : List NamedFault) × (cause : Cause) × (faults ≡ first ∷ more) × IsRefusedFor tables answers bytes first.names first.cause cause × LeadsToFault tables answers bytes budget first.names cause

  -- the first fault has these names, and the file is refused for it with this cause
  abbrev pub BeginsWith : List NamedFault → List (List ℕ) → Cause → Type 0
  BeginsWith faults names cause = (first : NamedFault) × (more : List NamedFault) × (faults ≡ first ∷ more) × (first.names ≡ names) × IsRefusedFor tables answers bytes names first.cause cause

  -- each list of faults of the file begins with a fault of these names, for which the file is refused with this cause
  abbrev pub IsFirstPastFaults : List (List ℕ) → Cause → Type 0
  IsFirstPastFaults names cause = (layers : List Layer) (faults : List NamedFault) → SalvagesMap layers faults → BeginsWith faults names cause

  -- if the file has a map, and the budget suffices, the layers are this map, and there is no fault
  abbrev pub GivesMap : List Layer → List NamedFault → Type 0
  GivesMap layers faults = (map : List Layer) → IsMapOf tables answers bytes map → FitsBudget tables answers bytes budget → (layers ≡ map) × (faults ≡ [])
