-- Private aid: files that are read past their faults, as contracts see them.
use Rattle.std.specs.Prelude.{◌≡◌, ◌≤◌, ◌+◌, ◌-◌, ℕ, suc, Bool, true, false, ◌⊎◌, List, [], ◌∷◌, ◌++◌, All, ◌==◌, IfSome, length, map, Option, Some, None, slice_get}
use Rattle.std.specs.BTreeMap.{get_by}
use Rattle.std.specs.List.{last_or, list_any}
use Rattle.std.specs.Ordering.{nat_cmp}
use Rattle.cmap_values.specs.NamesSeen.{names_seen}
use Rattle.cmap_values.specs.Files.{File}
use Rattle.cmap_load.specs.KnownFiles.{IsSpent, file_known, names_in}
use Rattle.cmap_load.specs.Salvage.{Found, NamedFault, Opening, Reading, ReadsWithin, SalvagesEach, SalvagesNamed, SalvagesUse, is_fault_of, list_causes, list_each}
use Rattle.cmap_load.specs.declared.faults.Faults.{Faults}
use Rattle.cmap_load.specs.declared.faults.FoundFault.{FoundFault}
use Rattle.cmap_load.specs.declared.faults.Kinds.{Kinds}
use Rattle.cmap_load.specs.declared.known.KnownFile.{KnownFile}
use Rattle.cmap_load.specs.declared.known.KnownFiles.{KnownFiles}
use Rattle.cmap_load.specs.declared.refusal.Cause.{Cause}
use Rattle.cmap_load.specs.declared.refusal.Cause.TheVariants.{Malformed, NoFile, ChainLength, OverBudget}
use Rattle.cmap_load.specs.declared.refusal.Refusal.{Refusal}
use Rattle.cmap_load.specs.declared.salvage.walk.Chain.{Chain}
use Rattle.cmap_load.specs.declared.salvage.walk.Walk.{Walk}
use Rattle.cmap_layers.specs.Layers.{Layer}
use Rattle.cmap_load.specs.Kept.{Files, IsAnswer, IsPast, Over, Stored, layers_on, size}
use Rattle.cmap_load.specs.Numbers.{AreDistinct, AreWithin, text_at}

abbrev pub fault_seen : Refusal → NamedFault
fault_seen refusal = record { names = names_seen refusal.names.items; cause = refusal.cause }

abbrev pub faults_seen : List Refusal → List NamedFault
faults_seen faults = map fault_seen faults

-- ---- faults that are listed
-- a fault, and the numbers of the names that lead to the file that has it
pub record NumberedFault : Type 0 where
  pub names : List ℕ
  pub cause : Cause

abbrev pub found_of : FoundFault → NumberedFault
found_of fault = record { names = fault.names.items; cause = fault.cause }

-- the fault with the names of these numbers
abbrev pub fault_of : List (List ℕ) → NumberedFault → NamedFault
fault_of texts fault = record { names = map (text_at texts) fault.names; cause = fault.cause }

abbrev pub fault_named : List (List ℕ) → FoundFault → NamedFault
fault_named texts fault = fault_of texts (found_of fault)

abbrev pub listed : List (List ℕ) → Faults → List NamedFault
listed texts faults = map (fault_named texts) faults.list.items

-- the names of the faults have numbers
abbrev pub AreNamed : List (List ℕ) → List FoundFault → Type 0
AreNamed texts faults = All (λ fault. AreWithin texts fault.names.items) faults

abbrev pub has_kind : Kinds → Cause → Bool
has_kind kinds (Malformed stop) = kinds.malformed
has_kind kinds NoFile = kinds.no_file
has_kind kinds ChainLength = kinds.chain_length
has_kind kinds OverBudget = kinds.over_budget

abbrev pub has_kind_of : Option Kinds → Cause → Bool
has_kind_of None cause = false
has_kind_of (Some kinds) cause = has_kind kinds cause

-- a fault of this kind is marked for the file of the name of this number
abbrev pub is_marked : Faults → ℕ → Cause → Bool
is_marked faults number cause = has_kind_of (get_by (λ other. nat_cmp number other) faults.kinds) cause

-- the same of the last of the names that lead to a file
abbrev pub is_marked_last : Faults → Option ℕ → Cause → Bool
is_marked_last faults None cause = false
is_marked_last faults (Some number) cause = is_marked faults number cause

abbrev pub is_last : ℕ → Option ℕ → Bool
is_last number None = false
is_last number (Some other) = other == number

-- a fault of a kind is marked for a name exactly if the list has such a fault
pub record AreMarked (texts : List (List ℕ)) (faults : Faults) : Type 0 where
  pub marks : (number : ℕ) (name : List ℕ) (cause : Cause) → slice_get texts number ≡ Some name → is_marked faults number cause ≡ list_any (is_fault_of name cause) (listed texts faults)
  pub named : AreNamed texts faults.list.items

-- the faults of the file that the names lead to are listed, and marked
pub record Lists (texts : List (List ℕ)) (old new : Faults) (names : List (List ℕ)) (causes : List Cause) : Type 0 where
  pub all : listed texts new ≡ list_causes (listed texts old) names causes
  pub marked : AreMarked texts new

-- the same by the numbers of the names, whatever their texts are
pub record AddsFaults (old new : Faults) (numbers : List ℕ) (causes : List Cause) : Type 0 where
  pub over : (texts : List (List ℕ)) → AreDistinct texts → AreWithin texts numbers → AreMarked texts old → Lists texts old new (map (text_at texts) numbers) causes

-- ---- files that are known
-- the faults of the file of a name are listed already
abbrev pub AddsNothing : List NamedFault → Option (List ℕ) → List Cause → Type 0
AddsNothing faults None causes = Unit {0}
AddsNothing faults (Some name) [] = Unit {0}
AddsNothing faults (Some name) (cause ∷ more) = list_any (is_fault_of name cause) faults ≡ true

abbrev pub ReadingAddsNothing : List NamedFault → Reading → Type 0
ReadingAddsNothing faults reading = AddsNothing faults (last_or None reading.names) reading.causes

-- the file exceeds neither the limit of the chain nor the budget
abbrev pub HasRoom : List Cause → Type 0
HasRoom [] = Unit {0}
HasRoom (Malformed stop ∷ more) = Unit {0}
HasRoom (NoFile ∷ more) = Unit {0}
HasRoom (ChainLength ∷ more) = ⊥
HasRoom (OverBudget ∷ more) = ⊥

-- at most this many names lead to the file, and the file exceeds neither the limit of the chain nor the budget
pub record IsRead (most : ℕ) (reading : Reading) : Type 0 where
  pub short : length reading.names ≤ most
  pub room : HasRoom reading.causes

module _ (files : Files) where
  -- the file of this name was read with the files that it uses, and their faults are listed
  pub record WasRead (faults : List NamedFault) (name : List ℕ) (file : KnownFile) : Type 0 where
    pub room : ℕ
    pub leading : List (List ℕ)
    pub before : Option ℕ
    pub found : Found
    pub run : SalvagesNamed (IsAnswer files) (Over files room) room (leading ++ name ∷ []) name (record { left = before; closed = false }) found
    pub read : All (IsRead (length leading + file.height)) found.readings
    pub listed : All (ReadingAddsNothing faults) found.readings
    pub spent : IfSome file.spent (IsSpent before found.after.left)

  abbrev pub WereRead : List NamedFault → KnownFiles → Type 0
  WereRead faults known = (number : ℕ) (name : List ℕ) (file : KnownFile) → slice_get files.texts number ≡ Some name → file_known known number ≡ Some file → WasRead faults name file

  -- the marks and the known files of a walk are right
  pub record Knows (walk : Walk) : Type 0 where
    pub marked : AreMarked files.texts walk.faults
    pub known : WereRead (listed files.texts walk.faults) walk.search.known
    pub names : AreWithin files.texts walk.search.names.items
    pub all : names_in walk.search.known ≡ length files.texts

-- ---- a walk
abbrev pub opening_seen : Walk → Opening
opening_seen walk = record { left = walk.search.left; closed = walk.is_closed }

-- the state before the first file, where there are so many names
pub record IsAtStart (budget : Option ℕ) (count : ℕ) (walk : Walk) : Type 0 where
  pub names : walk.search.names.items ≡ []
  pub faults : walk.faults.list.items ≡ []
  pub marked : (number : ℕ) (cause : Cause) → is_marked walk.faults number cause ≡ false
  pub known : (name : ℕ) → file_known walk.search.known name ≡ None
  pub all : names_in walk.search.known ≡ count
  pub opening : opening_seen walk ≡ record { left = budget; closed = false }

module _ (files : Files) where
  -- the walk goes on from old to new: the faults of these readings are listed, and the names stay
  pub record GoesOn (old new : Walk) (readings : List Reading) : Type 0 where
    pub names : new.search.names.items ≡ old.search.names.items
    pub all : listed files.texts new.faults ≡ list_each (listed files.texts old.faults) readings

  -- the result of a walk from old to new, with chains of this height after so many names; the layers are right if they are wanted or a chain was too long
  pub record Walks (salvages : Opening → Found → Type 0) (above below : ℕ) (wanted : Bool) (old new : Walk) (chain : Chain) : Type 0 where
    pub layers : List Layer
    pub readings : List Reading
    pub finds : salvages (opening_seen old) (record { layers = layers; readings = readings; after = opening_seen new })
    pub on : GoesOn old new readings
    pub knows : Knows files new
    pub read : new.is_cut ≡ false → (old.is_cut ≡ false) × All (IsRead (above + chain.height)) readings
    pub fits : chain.height ≤ below
    pub given : (wanted ≡ true) ⊎ (new.is_closed ≡ true) → layers_on files chain.path.items ≡ layers

  abbrev pub names_at : Walk → List (List ℕ)
  names_at walk = map (text_at files.texts) walk.search.names.items

  -- the walk of a file, under which this many files may stand in a chain
  abbrev pub WalksFile : ℕ → Stored → Bool → Walk → Walk → Chain → Type 0
  WalksFile below stored wanted old new = Walks (Over files (suc below) (names_at old) stored) (length (names_at old)) below wanted old new

  -- the walk of the uses of such a file
  abbrev pub WalksUses : ℕ → List (List ℕ) → Bool → Walk → Walk → Chain → Type 0
  WalksUses below uses wanted old new = Walks (SalvagesEach (SalvagesUse (IsAnswer files) (Over files below) below (names_at old)) uses []) (length (names_at old)) below wanted old new

  -- the walk of one use, after these layers
  abbrev pub WalksUse : ℕ → List ℕ → List Layer → Bool → Walk → Walk → Chain → Type 0
  WalksUse below name base wanted old new = Walks (SalvagesUse (IsAnswer files) (Over files below) below (names_at old) name base) (length (names_at old)) below wanted old new

  -- the walk of one use, before a chain was too long
  abbrev pub WalksOpen : ℕ → List ℕ → Bool → Walk → Walk → Chain → Type 0
  WalksOpen below name wanted old new chain = old.is_closed ≡ false → Walks (SalvagesNamed (IsAnswer files) (Over files below) below (names_at old ++ name ∷ []) name) (length (names_at old)) below wanted old new chain

  -- the walk of the file of a use, which counts in the chain
  abbrev pub WalksNamed : ℕ → List ℕ → Bool → Walk → Walk → Chain → Type 0
  WalksNamed below name wanted old new = Walks (SalvagesNamed (IsAnswer files) (Over files below) below (names_at old) name) (length (names_at old) - 1) below wanted old new

-- a file is read within the rest of the budget, and its faults are listed
pub record ReadsOn (files : Files) (stored : Stored) (old new : Walk) (file : File) : Type 0 where
  pub causes : List Cause
  pub reads : ReadsWithin (size files) (IsPast files) old.search.left stored file causes new.search.left
  pub on : GoesOn files old new (record { names = names_at files old; causes = causes } ∷ [])
  pub marked : AreMarked files.texts new.faults
  pub known : new.search.known ≡ old.search.known
  pub read : new.is_cut ≡ false → (old.is_cut ≡ false) × HasRoom causes
  pub closed : new.is_closed ≡ old.is_closed
