-- The results of reading a file over the files that it uses, by the tables of a bundle, if there is one, with these answers to names, and within a budget.
use Rattle.std.specs.Prelude.{◌≡◌, ◌≢◌, ◌⊎◌, ◌≤◌, ℕ, All, IfErr, IfNone, IfOk, IfSome, List, OnOk, Option, Result, length}
use Rattle.cmap_binary.specs.Bundles.{PrefixTables}
use Rattle.cmap_layers.specs.Layers.{Layer}
use Rattle.cmap_values.specs.NamesSeen.{names_seen}
use Rattle.cmap_values.specs.Outcomes.{RefusesWith}
use Rattle.cmap_values.specs.declared.fault.Fault.{Fault}
use Rattle.cmap_load.specs.Maps.{ExceedsBudget, FitsBudget, HasNoMap, IsMapOf, LeadsToFault}
use Rattle.cmap_load.specs.Opened.{ExceedsBudgetNamed, FitsBudgetNamed, HasNoMapNamed, IsMapNamed, IsUnknown, LeadsToFaultNamed}
use Rattle.cmap_load.specs.Salvage.{AreOfBundle, BeginsWithFault, GivesMap, IsFirstPastFaults, SalvagesMap}
use Rattle.cmap_load.specs.SalvageSeen.{faults_seen}
use Rattle.cmap_load.specs.declared.refusal.Cause.TheVariants.{OverBudget}
use Rattle.cmap_load.specs.declared.refusal.Refusal.{Refusal}

module _ (tables : Option PrefixTables) (answers : List ℕ → Option (List ℕ) → Type 0) where
  -- the result of reading the file of these bytes
  pub record ReadsLayers (bytes : List ℕ) (budget : Option ℕ) (result : Result (List Layer) (Fault Refusal)) : Type 0 where
    -- the layers are the map of the file, and no other layers are
    pub accepts : IfOk result (IsMapOf tables answers bytes)
    -- the files that are opened are within the budget
    pub within : OnOk result (FitsBudget tables answers bytes budget)
    -- there is no map, or the files that are opened exceed the budget
    pub refuses : IfErr result (RefusesWith (λ refusal. refusal.cause ≢ OverBudget → HasNoMap tables answers bytes × FitsBudget tables answers bytes budget))
    pub over : IfErr result (RefusesWith (λ refusal. refusal.cause ≡ OverBudget → ExceedsBudget tables answers bytes budget))
    -- the names lead to the file at fault; over a budget, to the first file that exceeds the budget
    pub blames : IfErr result (RefusesWith (λ refusal. LeadsToFault tables answers bytes budget (names_seen refusal.names.items) refusal.cause))
    -- unless the budget is exceeded, the cause is the first fault that is read past, or in a text in rows a fault after it
    pub first : IfErr result (RefusesWith (λ refusal. refusal.cause ≢ OverBudget → AreOfBundle tables → IsFirstPastFaults tables answers bytes budget (names_seen refusal.names.items) refusal.cause))
    -- at most 16 names lead to the file at fault
    pub few : IfErr result (RefusesWith (λ refusal. length refusal.names.items ≤ 16))

  -- the result of opening the file of this name
  pub record OpensLayers (name : List ℕ) (budget : Option ℕ) (result : Result (Option (List Layer)) (Fault Refusal)) : Type 0 where
    -- the layers are the map of the file of this name, and no other layers are; or they are the layers of a predefined identity
    pub accepts : IfOk result (λ found. IfSome found (IsMapNamed tables answers name))
    -- without layers, no file has the name, and no predefined identity has it
    pub absent : IfOk result (λ found. IfNone found (IsUnknown answers name))
    -- the files that are opened are within the budget
    pub within : OnOk result (FitsBudgetNamed tables answers name budget)
    -- a file has the name: there is no map, or the files that are opened exceed the budget
    pub refuses : IfErr result (RefusesWith (λ refusal. refusal.cause ≢ OverBudget → HasNoMapNamed tables answers name × FitsBudgetNamed tables answers name budget))
    pub over : IfErr result (RefusesWith (λ refusal. refusal.cause ≡ OverBudget → ExceedsBudgetNamed tables answers name budget))
    -- the names lead from the file of this name to the file at fault
    pub blames : IfErr result (RefusesWith (λ refusal. LeadsToFaultNamed tables answers name budget (names_seen refusal.names.items) refusal.cause))
    -- at most 16 names lead to the file at fault
    pub few : IfErr result (RefusesWith (λ refusal. length refusal.names.items ≤ 16))

  -- the layers and the faults of the file of these bytes, read past the faults
  pub record SalvagesLayers (bytes : List ℕ) (budget : Option ℕ) (layers : List Layer) (faults : List Refusal) : Type 0 where
    -- the faults of each file are listed once, when the file is first read
    pub says : SalvagesMap tables answers bytes budget layers (faults_seen faults)
    -- if the file has a map, and the budget suffices, the layers are this map, and there is no fault
    pub right : GivesMap tables answers bytes budget layers (faults_seen faults)
    -- if the file has no map or exceeds the budget, the first fault is the cause of a refusal, or in a text in rows a fault before the cause
    pub wrong : HasNoMap tables answers bytes ⊎ ExceedsBudget tables answers bytes budget → BeginsWithFault tables answers bytes budget (faults_seen faults)
    -- at most 16 names lead to each file at fault
    pub few : All (λ fault. length fault.names.items ≤ 16) faults
