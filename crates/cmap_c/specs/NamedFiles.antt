-- Maps over the files that C passes, each with its name, and over the files of a bundle.
use Rattle.std.specs.Prelude.{◌≡◌, ℕ, ◌-◌, ◌^◌, ◌==◌, List, [], Option, Some, None, option_map, if◌then◌else◌}
use Rattle.std.specs.Borrow.{Bor}
use Rattle.std.specs.Option.{option_or}
use Rattle.cmap_binary.specs.Bundles.{Bundle, IsBundle}
use Rattle.cmap_values.specs.Only.{IsOnly}
use Rattle.cmap_layers.specs.Layers.{Layer}
use Rattle.cmap_load.specs.Answers.{embedded}
use Rattle.cmap_load.specs.Identity.{identity_text}
use Rattle.cmap_load.specs.Layers.{AreUses, Means}
use Rattle.cmap_load.specs.Maps as maps
use Rattle.cmap_load.specs.NamedFiles.{first_named}
use Rattle.cmap_load.specs.declared.refusal.Cause.{Cause}
use Rattle.cmap_c.specs.declared.files.BaseFile.{BaseFile}

abbrev pub name_of : BaseFile → List ℕ
name_of file = file.name.now

abbrev pub bytes_of : BaseFile → List ℕ
bytes_of file = file.bytes.now

-- the bundle, where there is one
abbrev pub bundle_in : {B : Type 0} → (B → Bundle) → Option (Bor B) → Option Bundle
bundle_in bundle_of bundle = option_map (λ b. bundle_of b.now) bundle

-- a name is answered by the first file with the name, else by the file of the bundle with the name; Identity-H and Identity-V need no file
abbrev pub answers : Option Bundle → List BaseFile → List ℕ → Option (List ℕ) → Type 0
answers bundle files name answer = answer ≡ option_or (option_or (first_named name_of bytes_of files name) (embedded bundle name)) (identity_text name)

-- statements about a file over these files and the files of the bundle
module _ (bundle : Option Bundle) (files : List BaseFile) (bytes : List ℕ) where
  unfoldable pub IsMapOver : List Layer → Type 0
  IsMapOver = maps.IsMapOf (option_map (λ b. b.tables) bundle) (answers bundle files) bytes

  unfoldable pub HasNoMapOver : Type 0
  HasNoMapOver = maps.HasNoMap (option_map (λ b. b.tables) bundle) (answers bundle files) bytes

  unfoldable pub FitsBudgetOver : Option ℕ → Type 0
  FitsBudgetOver = maps.FitsBudget (option_map (λ b. b.tables) bundle) (answers bundle files) bytes

  unfoldable pub ExceedsBudgetOver : Option ℕ → Type 0
  ExceedsBudgetOver = maps.ExceedsBudget (option_map (λ b. b.tables) bundle) (answers bundle files) bytes

  unfoldable pub LeadsToFaultOver : Option ℕ → List (List ℕ) → Cause → Type 0
  LeadsToFaultOver = maps.LeadsToFault (option_map (λ b. b.tables) bundle) (answers bundle files) bytes

-- the names of the files that a file uses, read by the tables of a bundle, if there is one
unfoldable pub AreUsesOver : Option Bundle → List ℕ → List (List ℕ) → Type 0
AreUsesOver bundle bytes names = AreUses (Means (option_map (λ b. b.tables) bundle)) bytes names

-- the property holds for the bundle with these bytes; no bytes stand for no bundle
unfoldable pub OfGiven : List ℕ → (Option Bundle → Type 0) → Type 0
OfGiven [] P = P None
OfGiven bytes P = (bundle : Bundle) × IsOnly (IsBundle bytes) bundle × P (Some bundle)

-- the greatest number of 64 bits stands for no budget
abbrev pub budget_of : ℕ → Option ℕ
budget_of n = if n == 2 ^ 64 - 1 then None else Some n
