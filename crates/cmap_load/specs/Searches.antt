-- Private aid: a use that is passed over.
use Rattle.std.specs.Prelude.{◌≡◌, ℕ, ◌≤◌, Some}
use Rattle.cmap_load.specs.KnownFiles.{SpendsAgain, file_known}
use Rattle.cmap_load.specs.declared.known.KnownFile.{KnownFile}
use Rattle.cmap_load.specs.declared.search.Search.{Search}

-- a use of this name is passed over: its file is known and doesn't make the chain too long, and its bytes are spent
pub record PassesOver (name : ℕ) (below : ℕ) (old new : Search) (height : ℕ) : Type 0 where
  pub file : KnownFile
  pub is_known : file_known old.known name ≡ Some file
  pub same : file.height ≡ height
  pub fits : height ≤ below
  pub spends : SpendsAgain file.spent old.left new.left
  pub names : new.names ≡ old.names
  pub known : new.known ≡ old.known
