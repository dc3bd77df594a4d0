-- Maps of files that are opened by their names: the file that answers the name, or a predefined CMap.
use Rattle.std.specs.Prelude.{◌≡◌, ◌≢◌, ◌⊎◌, ℕ, List, [], ◌∷◌, Option, Some, None, codes}
use Rattle.cmap_binary.specs.Bundles.{PrefixTables}
use Rattle.cmap_values.specs.Files.{horizontal, vertical}
use Rattle.cmap_layers.specs.Layers.{Layer}
use Rattle.cmap_load.specs.Identity.{identity_layer}
use Rattle.cmap_load.specs.Maps as maps
use Rattle.cmap_load.specs.declared.refusal.Cause.{Cause}

-- a predefined identity has the name, and these are the layers of the identity. ISO 32000-1, 9.7.5.2
abbrev pub IsIdentity : List ℕ → List Layer → Type 0
IsIdentity name layers = ((name ≡ codes "Identity-H") × (layers ≡ identity_layer (codes "Identity-H") horizontal ∷ []))
    ⊎ ((name ≡ codes "Identity-V") × (layers ≡ identity_layer (codes "Identity-V") vertical ∷ []))

-- no predefined identity has the name
abbrev pub IsNoIdentity : List ℕ → Type 0
IsNoIdentity name = (name ≢ codes "Identity-H") × (name ≢ codes "Identity-V")

module _ (answers : List ℕ → Option (List ℕ) → Type 0) (name : List ℕ) where
  -- a file has the name, and this holds of its bytes
  abbrev pub OfFile : (List ℕ → Type 0) → Type 0
  OfFile P = (bytes : List ℕ) × answers name (Some bytes) × P bytes

  -- no file has the name, and no predefined identity has it
  abbrev pub IsUnknown : Type 0
  IsUnknown = answers name None × IsNoIdentity name

module _ (tables : Option PrefixTables) (answers : List ℕ → Option (List ℕ) → Type 0) (name : List ℕ) where
  -- these layers are the map of the file of this name, and no other layers are; if no file has the name, they are the layers of a predefined identity
  abbrev pub IsMapNamed : List Layer → Type 0
  IsMapNamed layers = OfFile answers name (λ bytes. maps.IsMapOf tables answers bytes layers) ⊎ (answers name None × IsIdentity name layers)

  abbrev pub HasNoMapNamed : Type 0
  HasNoMapNamed = OfFile answers name (maps.HasNoMap tables answers)

  -- the files that are opened are within the budget, or exceed it; if no file has the name, no file is opened
  abbrev pub FitsBudgetNamed : Option ℕ → Type 0
  FitsBudgetNamed budget = OfFile answers name (λ bytes. maps.FitsBudget tables answers bytes budget) ⊎ answers name None

  abbrev pub ExceedsBudgetNamed : Option ℕ → Type 0
  ExceedsBudgetNamed budget = OfFile answers name (λ bytes. maps.ExceedsBudget tables answers bytes budget)

  -- the names lead from the file of this name to the file at fault
  abbrev pub LeadsToFaultNamed : Option ℕ → List (List ℕ) → Cause → Type 0
  LeadsToFaultNamed budget names cause = OfFile answers name (λ bytes. maps.LeadsToFault tables answers bytes budget names cause)
