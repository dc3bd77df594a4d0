-- Why files have no layers: the file at fault, and what is wrong with it.
use Rattle.std.specs.Prelude.{◌≡◌, ℕ, zero, suc, ◌<◌, ◌≤◌, List, [], ◌∷◌, ◌++◌, ◌⊎◌, length, All, Option, Some, None}
use Rattle.cmap_values.specs.Files.{File}
use Rattle.cmap_binary.specs.BinaryFaults.{IsBinaryFault}
use Rattle.cmap_binary.specs.BinaryFiles.{IsMarkedBinary}
use Rattle.cmap_binary.specs.Bundles.{PrefixTables}
use Rattle.cmap_values.specs.Only.{IsOnly, HoldsOfNone}
use Rattle.cmap_values.specs.Outcomes.{DecidedBy}
use Rattle.cmap_values.specs.declared.fault.Stop.{Stop}
use Rattle.cmap_text.specs.TextFiles.{IsTextFile}
use Rattle.cmap_text.specs.TextReading.{StopsText}
use Rattle.cmap_layers.specs.Layers as said
use Rattle.cmap_load.specs.Budgets.{OpensFirst, OpensUseFirst, PassesAt}
use Rattle.cmap_load.specs.BytesSpent.{About, Refuses, GoesOver}
use Rattle.cmap_load.specs.Layers.{AreLayers, Means, OfAnswer}
use Rattle.cmap_load.specs.declared.refusal.Cause.{Cause}
use Rattle.cmap_load.specs.declared.refusal.Cause.TheVariants.{Malformed, NoFile, ChainLength, OverBudget}

-- bytes are read as a text: without a bundle all bytes, else bytes that aren't marked as a binary file
abbrev pub IsReadAsText : Option PrefixTables → List ℕ → Type 0
IsReadAsText None bytes = Unit {0}
IsReadAsText (Some tables) bytes = IsMarkedBinary bytes → ⊥

-- if bytes are read as a text, the bytes up to and including the byte at which reading stopped decide: no text that begins with these bytes is a file
abbrev pub IsDecidedAsText : Option PrefixTables → List ℕ → Stop → Type 0
IsDecidedAsText tables bytes stop = IsReadAsText tables bytes → DecidedBy IsTextFile bytes stop

-- the first fault of bytes that mean no file: in a text, the first wrong token and the reason; in a binary file, the fault of the header or else the first segment that says nothing
abbrev pub IsFirstFault : Option PrefixTables → List ℕ → Stop → Type 0
IsFirstFault None bytes stop = StopsText bytes stop
IsFirstFault (Some tables) bytes stop = (IsMarkedBinary bytes × IsBinaryFault tables bytes stop) ⊎ ((IsMarkedBinary bytes → ⊥) × StopsText bytes stop)

-- the name is one of these uses, and each use before it has the property
abbrev pub IsUsedAfter : (List ℕ → Type 0) → List (List ℕ) → List ℕ → Type 0
IsUsedAfter P uses name = (before : List (List ℕ)) × (after : List (List ℕ)) × (uses ≡ before ++ name ∷ after) × All P before

module _ (tables : Option PrefixTables) (answer : List ℕ → Option (List ℕ) → Type 0) where
  -- the fault of a file by itself
  abbrev pub IsOwnFault : List ℕ → Cause → Type 0
  IsOwnFault bytes (Malformed stop) = HoldsOfNone (Means tables bytes) × (stop.offset ≤ length bytes) × IsDecidedAsText tables bytes stop × IsFirstFault tables bytes stop
  IsOwnFault bytes OverBudget = ⊥
  IsOwnFault bytes NoFile = ⊥
  IsOwnFault bytes ChainLength = ⊥

  -- the cause for which a name gives no file; at most this many further files may stand in the chain, and if no further file may, the name isn't asked for
  abbrev pub IsMissing : ℕ → List ℕ → Cause → Type 0
  IsMissing room name (Malformed stop) = ⊥
  IsMissing room name OverBudget = ⊥
  IsMissing room name NoFile = (0 < room) × answer name None
  IsMissing room name ChainLength = room ≡ 0

  -- a file of this name has layers; at most this many further files may stand in the chain
  abbrev pub HasLayers : ℕ → List ℕ → Type 0
  HasLayers room name = (layers : List said.Layer) × OfAnswer answer (AreLayers (Means tables) answer room) name layers

  -- the names lead from the file of these bytes to the first file at fault; each name is used by the file before it
  abbrev pub IsFault : ℕ → List ℕ → List (List ℕ) → Cause → Type 0
  IsFault zero bytes names cause = ⊥
  IsFault (suc most) bytes [] cause = IsOwnFault bytes cause
  IsFault (suc most) bytes (name ∷ names) cause = (file : File) × IsOnly (Means tables bytes) file × IsUsedAfter (HasLayers most) file.uses name × ((IsMissing most name cause × (names ≡ []))
      ⊎ ((base : List ℕ) × answer name (Some base) × IsFault most base names cause))

  -- the names lead from a use of this name to the first file at fault
  abbrev pub IsUseFault : ℕ → List ℕ → List (List ℕ) → Cause → Type 0
  IsUseFault most name [] cause = ⊥
  IsUseFault most name (first ∷ names) cause = (first ≡ name) × ((IsMissing most name cause × (names ≡ [])) ⊎ ((base : List ℕ) × answer name (Some base) × IsFault most base names cause))

  -- the names lead from a file, or from a use, to the first file at fault; over a budget, to the first file that exceeds the budget
  abbrev pub IsFaultWithin : Option ℕ → ℕ → List ℕ → List (List ℕ) → Cause → Type 0
  IsFaultWithin budget most bytes names OverBudget = PassesAt (OpensFirst (Means tables) answer most bytes) budget names
  IsFaultWithin budget most bytes names cause = IsFault most bytes names cause

  abbrev pub IsUseFaultWithin : Option ℕ → ℕ → List ℕ → List (List ℕ) → Cause → Type 0
  IsUseFaultWithin budget most name names OverBudget = PassesAt (OpensUseFirst answer (OpensFirst (Means tables) answer most) most name) budget names
  IsUseFaultWithin budget most name names cause = IsUseFault most name names cause

-- ---- private aid
-- how reading a file or a use fails
abbrev pub Fails : {Key : Type 0} → About Key → Key → Option ℕ → Option ℕ → Cause → Type 0
Fails about key budget left (Malformed stop) = Refuses about key budget left
Fails about key budget left NoFile = Refuses about key budget left
Fails about key budget left ChainLength = Refuses about key budget left
Fails about key budget left OverBudget = GoesOver about key budget
