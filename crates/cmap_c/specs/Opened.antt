-- Maps of files that C opens by their names.
use Rattle.std.specs.Prelude.{ℕ, List, Option, option_map}
use Rattle.cmap_binary.specs.Bundles.{Bundle}
use Rattle.cmap_layers.specs.Layers.{Layer}
use Rattle.cmap_load.specs.Opened as opened
use Rattle.cmap_c.specs.NamedFiles.{answers}
use Rattle.cmap_c.specs.declared.files.BaseFile.{BaseFile}

-- statements about a name over these files and the files of the bundle
module _ (bundle : Option Bundle) (files : List BaseFile) (name : List ℕ) where
  unfoldable pub IsMapNamed : List Layer → Type 0
  IsMapNamed = opened.IsMapNamed (option_map (λ b. b.tables) bundle) (answers bundle files) name

  unfoldable pub IsUnknownOver : Type 0
  IsUnknownOver = opened.IsUnknown (answers bundle files) name

  unfoldable pub HasNoMapNamed : Type 0
  HasNoMapNamed = opened.HasNoMapNamed (option_map (λ b. b.tables) bundle) (answers bundle files) name

  unfoldable pub FitsBudgetNamed : Option ℕ → Type 0
  FitsBudgetNamed = opened.FitsBudgetNamed (option_map (λ b. b.tables) bundle) (answers bundle files) name

  unfoldable pub ExceedsBudgetNamed : Option ℕ → Type 0
  ExceedsBudgetNamed = opened.ExceedsBudgetNamed (option_map (λ b. b.tables) bundle) (answers bundle files) name
