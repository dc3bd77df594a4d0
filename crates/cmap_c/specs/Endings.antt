-- Private aid: how calls that read a map end, and what C then gets.
use Rattle.std.specs.Prelude.{◌≡◌, ◌≢◌, ℕ, ◌⊎◌, List, Option, Some, None, Result, Ok, Err}
use Rattle.cmap_binary.specs.Bundles.{Bundle, PrefixTables}
use Rattle.cmap_values.specs.Outcomes.{Outcome}
use Rattle.cmap_values.specs.declared.fault.Fault.{Fault}
use Rattle.cmap_values.specs.declared.fault.Fault.TheVariants as fault
use Rattle.cmap_layers.specs.Layers.{Layer}
use Rattle.cmap_load.specs.Maps as maps
use Rattle.cmap_load.specs.declared.refusal.Cause.TheVariants as cause
use Rattle.cmap_c.specs.Faults.{IsToldWith, status_of}
use Rattle.cmap_c.specs.NamedFiles.{ExceedsBudgetOver, FitsBudgetOver, HasNoMapOver, IsMapOver, LeadsToFaultOver}
use Rattle.cmap_c.specs.Opened.{ExceedsBudgetNamed, FitsBudgetNamed, HasNoMapNamed, IsMapNamed, IsUnknownOver}
use Rattle.cmap_handles.specs.Rooms.{IsPut}
use Rattle.cmap_handles.specs.Statuses.{number}
use Rattle.cmap_c.specs.declared.fault.FaultNumbers.{FaultNumbers}
use Rattle.cmap_c.specs.declared.fault.Told.{Told}
use Rattle.cmap_c.specs.declared.files.BaseFile.{BaseFile}
use Rattle.cmap_handles.specs.declared.status.Status.{Status}
use Rattle.cmap_handles.specs.declared.status.Status.TheVariants.{Done, Refused, NoMemory, OverBudget, NotABundle, Absent, NoRoom}

-- the map has the property and the budget suffices, or the status states why there is no map; if memory ran out, nothing is stated
abbrev pub Ends : (List Layer → Type 0) → (none fits over invalid absent : Type 0) → Result (List Layer) Status → Type 0
Ends IsMap none fits over invalid absent (Ok map) = IsMap map × fits
Ends IsMap none fits over invalid absent (Err Done) = ⊥
Ends IsMap none fits over invalid absent (Err Refused) = none × fits
Ends IsMap none fits over invalid absent (Err NoMemory) = Unit {0}
Ends IsMap none fits over invalid absent (Err OverBudget) = over
Ends IsMap none fits over invalid absent (Err NotABundle) = invalid
Ends IsMap none fits over invalid absent (Err Absent) = absent
Ends IsMap none fits over invalid absent (Err NoRoom) = ⊥

-- how a call ends that reads a file, with these answers to names
abbrev pub EndsBy : Option PrefixTables → (List ℕ → Option (List ℕ) → Type 0) → List ℕ → Option ℕ → Result (List Layer) Status → Type 0
EndsBy tables answers bytes budget = Ends (maps.IsMapOf tables answers bytes) (maps.HasNoMap tables answers bytes) (maps.FitsBudget tables answers bytes budget) (maps.ExceedsBudget tables answers bytes budget) ⊥ ⊥

-- how a call ends that reads a file over files and a bundle
abbrev pub EndsOver : Option Bundle → List BaseFile → List ℕ → Option ℕ → Result (List Layer) Status → Type 0
EndsOver bundle files bytes budget = Ends (IsMapOver bundle files bytes) (HasNoMapOver bundle files bytes) (FitsBudgetOver bundle files bytes budget) (ExceedsBudgetOver bundle files bytes budget) ⊥ ⊥

-- how a call ends that reads the file of a name over files and a bundle
abbrev pub EndsNamed : Option Bundle → List BaseFile → List ℕ → Option ℕ → Result (List Layer) Status → Type 0
EndsNamed bundle files name budget = Ends (IsMapNamed bundle files name) (HasNoMapNamed bundle files name) (FitsBudgetNamed bundle files name budget) (ExceedsBudgetNamed bundle files name budget) ⊥ (IsUnknownOver bundle files name)

-- the map of a file, or what C is told about why there is no map
abbrev pub IsExplainedOver : Option Bundle → List BaseFile → List ℕ → Option ℕ → Result (List Layer) (Fault Told) → Type 0
IsExplainedOver bundle files bytes budget = Outcome (λ map. IsMapOver bundle files bytes map × FitsBudgetOver bundle files bytes budget)
    (λ told. (told.cause ≢ cause.OverBudget → HasNoMapOver bundle files bytes × FitsBudgetOver bundle files bytes budget)
    × (told.cause ≡ cause.OverBudget → ExceedsBudgetOver bundle files bytes budget)
    × IsToldWith (LeadsToFaultOver bundle files bytes budget) told)

-- the map is passed on, or C is told in a fault and a buffer why there is no map
abbrev pub IsTold : Result (List Layer) (Fault Told) → (old_fault new_fault : FaultNumbers) → (old new : List ℕ) → (old_needed needed : ℕ) → Result (List Layer) Status → Type 0
IsTold (Ok map) old_fault new_fault old new old_needed needed result = (result ≡ Ok map) × (new_fault ≡ old_fault) × (new ≡ old) × (needed ≡ old_needed)
IsTold (Err fault.Memory) old_fault new_fault old new old_needed needed result = (result ≡ Err NoMemory) × (new_fault ≡ old_fault) × (new ≡ old) × (needed ≡ old_needed)
IsTold (Err (fault.Refused told)) old_fault new_fault old new old_needed needed result = (result ≡ Err (status_of told.cause)) × (new_fault ≡ told.fault) × ((put : ℕ) × IsPut told.names.items old new needed put)

-- the handle has the map, if there is memory for it, or no map; the number states how the call ended
abbrev pub IsKept : Result (List Layer) Status → ℕ → Option (List Layer) → Type 0
IsKept (Ok map) status now = ((status ≡ number Done) × (now ≡ Some map)) ⊎ ((status ≡ number NoMemory) × (now ≡ None))
IsKept (Err ended) status now = (status ≡ number ended) × (now ≡ None)
