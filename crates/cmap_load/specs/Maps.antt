-- The map of a file over the files that it uses, by the tables of a bundle, if there is one, and with these answers to names.
use Rattle.std.specs.Prelude.{ℕ, List, Option}
use Rattle.cmap_binary.specs.Bundles.{PrefixTables}
use Rattle.cmap_values.specs.Only.{IsOnly, HoldsOfNone}
use Rattle.cmap_layers.specs.Layers.{Layer}
use Rattle.cmap_load.specs.Budgets.{PassesBudget, StaysWithin}
use Rattle.cmap_load.specs.Layers.{AreLayers, Means}
use Rattle.cmap_load.specs.Refusals.{IsFaultWithin}
use Rattle.cmap_load.specs.declared.refusal.Cause.{Cause}

-- at most this many files stand in a chain, the top one counted
abbrev pub most_files : ℕ
most_files = 16

module _ (tables : Option PrefixTables) (answers : List ℕ → Option (List ℕ) → Type 0) (bytes : List ℕ) where
  -- these layers are the map of the file, and no other layers are
  abbrev pub IsMapOf : List Layer → Type 0
  IsMapOf = IsOnly (AreLayers (Means tables) answers most_files bytes)

  abbrev pub HasNoMap : Type 0
  HasNoMap = HoldsOfNone (AreLayers (Means tables) answers most_files bytes)

  -- the files that are opened are within the budget, or exceed it
  abbrev pub FitsBudget : Option ℕ → Type 0
  FitsBudget budget = StaysWithin (Means tables) answers most_files bytes budget

  abbrev pub ExceedsBudget : Option ℕ → Type 0
  ExceedsBudget budget = PassesBudget (Means tables) answers most_files bytes budget

  -- the names lead from the file to the file at fault; over a budget, to the first file that exceeds the budget
  abbrev pub LeadsToFault : Option ℕ → List (List ℕ) → Cause → Type 0
  LeadsToFault budget names cause = IsFaultWithin tables answers budget most_files bytes names cause
