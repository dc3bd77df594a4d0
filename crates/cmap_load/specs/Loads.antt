-- The answers that a loader was given, and its results.
use Rattle.std.specs.Prelude.{◌≡◌, ℕ, ◌⊎◌, ◌-◌, ◌^◌, List, [], ◌∷◌, ◌++◌, length, map, Option, Some, None, option_map}
use Rattle.cmap_binary.specs.Bundles.{PrefixTables}
use Rattle.cmap_layers.specs.Layers.{Layer}
use Rattle.cmap_values.specs.FilesSeen.{file_seen}
use Rattle.cmap_values.specs.NamesSeen.{names_seen}
use Rattle.cmap_values.specs.declared.file.File as parsed
use Rattle.cmap_load.specs.declared.refusal.Cause.{Cause}
use Rattle.cmap_load.specs.declared.refusal.Cause.TheVariants.{ChainLength, OverBudget}
pub use Rattle.cmap_load.specs.Loading.{AreLoaded}
use Rattle.cmap_load.specs.Graphs.{AreNamed, IsAwaiting, IsBegun, IsNext, IsWithin}
use Rattle.cmap_load.specs.Loading.{Agrees, Answer, IsAnswered, IsOpened, IsRefusal, LeadsToAnswer, OfBytes, bytes_at}
use Rattle.cmap_load.specs.Loading as loading
use Rattle.cmap_load.specs.Numbers.{AreWithin, IsMore, text_at}
use Rattle.cmap_load.specs.Tables.{Grows, HasTexts, IsAdded, IsNew, IsTable, Shows}
use Rattle.cmap_load.specs.declared.graph.Graph.{Graph}
use Rattle.cmap_load.specs.declared.graph.step.Next.{Next}
use Rattle.cmap_load.specs.declared.graph.step.Next.TheVariants as next
use Rattle.cmap_load.specs.declared.loader.Loader.{Loader}
use Rattle.cmap_load.specs.declared.loader.RefusedFile.{RefusedFile}
use Rattle.cmap_load.specs.declared.loader.State.{State}
use Rattle.cmap_load.specs.declared.loader.State.TheVariants as state
use Rattle.cmap_load.specs.declared.refusal.Refusal.{Refusal}
use Rattle.cmap_load.specs.declared.table.Table.{Table}

-- ---- results by the answers
module _ (tables : Option PrefixTables) (budget : Option ℕ) (answers : List Answer) where
  -- the files that are opened for the first file are within the budget
  pub record FitsGiven : Type 0 where
    pub from : (bytes : List ℕ) → bytes_at answers 0 ≡ Some bytes → loading.IsWithin tables answers budget bytes

  -- the names lead from the first file to the file at fault
  pub record IsRefused (names : List (List ℕ)) (cause : Cause) : Type 0 where
    pub from : (bytes : List ℕ) → bytes_at answers 0 ≡ Some bytes → IsRefusal tables answers budget bytes names cause

-- ---- states
-- the state after a walk through the files
abbrev pub NextIs : Next → State → Type 0
NextIs next.Whole found = found ≡ state.Whole
NextIs (next.Wanted wanted) found = found ≡ state.Wanted wanted
NextIs (next.TooLong names) found = found ≡ state.Refused (record { names = names; cause = ChainLength })
NextIs (next.OverBudget names) found = found ≡ state.Refused (record { names = names; cause = OverBudget })

-- the state is possible with these files
abbrev pub Follows : Graph → State → Type 0
Follows graph state.Whole = IsWithin graph
Follows graph (state.Wanted wanted) = IsBegun graph × IsAwaiting graph wanted
Follows graph (state.Refused refused) = AreNamed graph refused.names.items

-- the files, or the refusal, are what the answers give
abbrev pub IsReady : Option PrefixTables → List Answer → List (List ℕ) → Table → State → Type 0
IsReady tables answers texts table state.Whole = Shows tables answers texts table
IsReady tables answers texts table (state.Wanted wanted) = Shows tables answers texts table
IsReady tables answers texts table (state.Refused refused) = IsRefused tables table.graph.budget answers (map (text_at texts) refused.names.items) refused.cause

abbrev pub wanted_by : List (List ℕ) → State → Option (List ℕ)
wanted_by texts state.Whole = None
wanted_by texts (state.Wanted wanted) = Some (text_at texts wanted.name)
wanted_by texts (state.Refused refused) = None

-- a refusal: the names that lead to the file at fault, and the cause
pub record Refused : Type 0 where
  pub names : List (List ℕ)
  pub cause : Cause

abbrev pub refused_of : Refusal → Refused
refused_of refusal = record { names = names_seen refusal.names.items; cause = refusal.cause }

abbrev pub refused_by : List (List ℕ) → State → Option Refused
refused_by texts state.Whole = None
refused_by texts (state.Wanted wanted) = None
refused_by texts (state.Refused refused) = Some (record { names = map (text_at texts) refused.names.items; cause = refused.cause })

-- the answer to the name of this number; the first file has no name
abbrev pub answer_to : List (List ℕ) → Option ℕ → Option (List ℕ) → Answer
answer_to texts name bytes = record { name = option_map (text_at texts) name; bytes = bytes }

-- the files of a table are the files of these answers, and these names lead to the file of the next answer
pub record LeadsToNext (tables : Option PrefixTables) (answers : List Answer) (texts : List (List ℕ)) (table : Table) (name : Option ℕ) (names : List ℕ) (left : Option ℕ) (bytes : Option (List ℕ)) : Type 0 where
  pub shows : Shows tables answers texts table
  pub has : OfBytes (bytes_at (answers ++ answer_to texts name bytes ∷ []) 0) (λ bytes. Unit {0})
  pub leads : (first : List ℕ) → bytes_at (answers ++ answer_to texts name bytes ∷ []) 0 ≡ Some first
      → LeadsToAnswer tables (answers ++ answer_to texts name bytes ∷ []) table.graph.budget first (map (text_at texts) names) left bytes

-- fewer files than a list can hold, and none once no name is wanted: the measure of a loop that supplies a loader
abbrev pub files_left : Option (List ℕ) → ℕ → ℕ
files_left None files = 0
files_left (Some name) files = 2 ^ 64 - files

-- ---- loaders
module _ {N : Type 0} where
  abbrev pub budget_of : Loader N → Option ℕ
  budget_of loader = loader.table.graph.budget

  -- the number of files that were read
  abbrev pub files_in : Loader N → ℕ
  files_in loader = length loader.table.graph.nodes.items

module _ {N : Type 0} (texts : N → List (List ℕ)) where
  -- the wanted name
  abbrev pub wanted_of : Loader N → Option (List ℕ)
  wanted_of loader = wanted_by (texts loader.list) loader.state

  -- the refusal of the first file, if it is refused
  abbrev pub refusal_of : Loader N → Option Refused
  refusal_of loader = refused_by (texts loader.list) loader.state

  -- the loader was given these answers: the first file, and then the files of the wanted names, in order
  pub record Reads (tables : Option PrefixTables) (answers : List Answer) (loader : Loader N) : Type 0 where
    pub has : OfBytes (bytes_at answers 0) (λ bytes. Unit {0})
    pub ready : IsReady tables answers (texts loader.list) loader.table loader.state

  -- a caller sees no difference between the loaders
  pub record IsUnchanged (old new : Loader N) : Type 0 where
    pub wanted : wanted_of new ≡ wanted_of old
    pub budget : budget_of new ≡ budget_of old
    pub files : files_in new ≡ files_in old
    pub reads : (tables : Option PrefixTables) (answers : List Answer) → Reads tables answers old → Reads tables answers new

  -- more names have numbers, and no file was added
  pub record HasGrown (old new : Loader N) : Type 0 where
    pub grows : Grows old.table new.table
    pub more : IsMore (texts old.list) (texts new.list)

  -- the file of a name, or the top file, was read and added, and this comes next
  pub record IsRead (tables : Option PrefixTables) (old new : Loader N) (name : Option ℕ) (bytes : Option (List ℕ)) (found_next : Next) : Type 0 where
    pub count : ℕ
    pub file : parsed.File
    pub opened : IsOpened tables bytes count (file_seen file)
    pub added : IsAdded (texts old.list) (texts new.list) old.table new.table name count file
    pub begun : IsBegun new.table.graph
    pub is_next : IsNext new.table.graph found_next

  -- the loader loads the file of these bytes within a budget, and each answer that it was given agrees with these answers
  pub record Loads (tables : Option PrefixTables) (budget : Option ℕ) (answer : List ℕ → Option (List ℕ) → Type 0) (bytes : List ℕ) (loader : Loader N) : Type 0 where
    pub answers : List Answer
    pub reads : Reads tables answers loader
    pub within : budget_of loader ≡ budget
    pub first : bytes_at answers 0 ≡ Some bytes
    pub agrees : Agrees (IsAnswered answers) answer

  -- ---- results
  -- the layers are the layers of the first file by the answers that the loader was given
  pub record AreLoadedBy (loader : Loader N) (layers : List Layer) : Type 0 where
    pub by : (tables : Option PrefixTables) (answers : List Answer) → Reads tables answers loader → AreLoaded tables answers layers

  pub record FitsBy (loader : Loader N) : Type 0 where
    pub by : (tables : Option PrefixTables) (answers : List Answer) → Reads tables answers loader → FitsGiven tables (budget_of loader) answers

  pub record IsRefusedBy (loader : Loader N) (refused : Refused) : Type 0 where
    pub by : (tables : Option PrefixTables) (answers : List Answer) → Reads tables answers loader → IsRefused tables (budget_of loader) answers refused.names refused.cause

  -- the refusal names the file at fault by the answers that the loader was given
  abbrev pub file_refused : RefusedFile N → Refused
  file_refused refused = record { names = map (text_at (texts refused.list)) refused.names.items; cause = refused.cause }

  pub record IsRefusedFile (loader : Loader N) (refused : RefusedFile N) : Type 0 where
    pub within : AreWithin (texts refused.list) refused.names.items
    pub by : IsRefusedBy loader (file_refused refused)
    pub told : refusal_of loader ≡ Some (file_refused refused)

  module _ (are_numbered : N → Type 0) where
    -- the names and the files of a loader are right
    pub record IsSet (loader : Loader N) : Type 0 where
      pub numbered : are_numbered loader.list
      pub table : IsTable loader.table
      pub texts_are : HasTexts (texts loader.list) loader.table.graph

    -- the next step of a loader is right too
    pub record IsLoading (loader : Loader N) : Type 0 where
      pub set : IsSet loader
      pub follows : Follows loader.table.graph loader.state

    -- the file of a name is awaited, or the top file, which has no name
    pub record IsAwaited (loader : Loader N) (name : Option ℕ) : Type 0 where
      pub set : IsSet loader
      pub new : IsNew loader.table.graph name
      pub begun : (loader.table.graph.nodes.items ≡ []) ⊎ IsBegun loader.table.graph
