-- What C gets of a file that is read past its faults: a map, as many faults as fit, and the names that lead to each fault.
use Rattle.std.specs.Prelude.{◌≡◌, ℕ, ◌⊎◌, List, ◌++◌, Option, Some, drop, length, map, option_map, take}
use Rattle.std.specs.List.{concat}
use Rattle.cmap_binary.specs.Bundles.{Bundle, PrefixTables}
use Rattle.cmap_layers.specs.Layers.{Layer}
use Rattle.cmap_load.specs.Maps.{ExceedsBudget, HasNoMap}
use Rattle.cmap_load.specs.Salvage.{BeginsWithFault, GivesMap, NamedFault, SalvagesMap}
use Rattle.cmap_c.specs.Faults.{fault_numbers}
use Rattle.cmap_c.specs.NamedFiles.{answers}
use Rattle.cmap_handles.specs.Rooms.{IsPut}
use Rattle.cmap_c.specs.declared.fault.FaultNumbers.{FaultNumbers}
use Rattle.cmap_c.specs.declared.files.BaseFile.{BaseFile}
use Rattle.cmap_c.specs.declared.salvage.Salvaged.{Salvaged}
use Rattle.cmap_c.specs.declared.salvage.ShownFaults.{ShownFaults}

-- the layers and faults that are read of a file: a file with a map for which the budget suffices gives this map and no fault; for any other file, the first fault is one for which the file is refused
pub record IsSalvage (tables : Option PrefixTables) (answers : List ℕ → Option (List ℕ) → Type 0) (bytes : List ℕ) (budget : Option ℕ) (layers : List Layer) (faults : List NamedFault) : Type 0 where
  pub says : SalvagesMap tables answers bytes budget layers faults
  pub right : GivesMap tables answers bytes budget layers faults
  pub wrong : HasNoMap tables answers bytes ⊎ ExceedsBudget tables answers bytes budget → BeginsWithFault tables answers bytes budget faults

-- the layers and faults that are read of a file over these files and the files of the bundle
unfoldable pub IsSalvageOver : Option Bundle → List BaseFile → List ℕ → Option ℕ → List Layer → List NamedFault → Type 0
IsSalvageOver bundle files bytes budget = IsSalvage (option_map (λ b. b.tables) bundle) (answers bundle files) bytes budget

-- the numbers of each fault
abbrev pub numbers_of_all : List NamedFault → List FaultNumbers
numbers_of_all faults = map (λ fault. fault_numbers fault.names fault.cause) faults

-- the names that lead to each fault, one after another, beginning with the names of the first fault
abbrev pub names_joined : List NamedFault → List ℕ
names_joined faults = concat (map (λ fault. concat fault.names) faults)

-- C has these faults: as many as fit stand at the start of a buffer, and the names of all faults in another buffer, if they fit
pub record AreWritten (faults : List NamedFault) (old new : List FaultNumbers) (found : ℕ) (old_names new_names : List ℕ) (needed : ℕ) : Type 0 where
  pub are_counted : found ≡ length faults
  pub are_there : new ≡ take (length old) (numbers_of_all faults) ++ drop (length faults) old
  pub put : ℕ
  pub are_put : IsPut (names_joined faults) old_names new_names needed put

-- C has a map and faults with this property
pub record IsSalvaged (says : List Layer → List NamedFault → Type 0) (map : Option (List Layer)) (old new : List FaultNumbers) (found : ℕ) (old_names new_names : List ℕ) (needed : ℕ) : Type 0 where
  pub layers : List Layer
  pub faults : List NamedFault
  pub said : says layers faults
  pub is_map : map ≡ Some layers
  pub written : AreWritten faults old new found old_names new_names needed

-- ---- private aid
abbrev pub AreFaultsShown : List NamedFault → ShownFaults → Type 0
AreFaultsShown faults shown = (shown.faults.items ≡ numbers_of_all faults) × (shown.names.items ≡ names_joined faults)

abbrev pub IsSalvagedWith : (List Layer → List NamedFault → Type 0) → Salvaged → Type 0
IsSalvagedWith says salvaged = (faults : List NamedFault) × says salvaged.map.value faults × AreFaultsShown faults salvaged.shown
