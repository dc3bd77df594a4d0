-- Private aid: files that were read, by the numbers of their names, and the bytes that a further use of a file spends.
use Rattle.std.specs.Prelude.{◌≡◌, ℕ, ◌+◌, Option, Some, None, length, slice_get}
use Rattle.cmap_load.specs.BytesSpent.{Leaves}
use Rattle.cmap_load.specs.declared.known.KnownFile.{KnownFile}
use Rattle.cmap_load.specs.declared.known.KnownFiles.{KnownFiles}

-- this many bytes were taken from a budget
abbrev pub IsSpent : Option ℕ → Option ℕ → ℕ → Type 0
IsSpent None after spent = ⊥
IsSpent (Some before) None spent = ⊥
IsSpent (Some before) (Some after) spent = after + spent ≡ before

-- as many bytes are taken once more; without a budget, nothing is taken
abbrev pub SpendsAgain : Option ℕ → Option ℕ → Option ℕ → Type 0
SpendsAgain spent None left = left ≡ None
SpendsAgain None (Some budget) left = ⊥
SpendsAgain (Some spent) (Some budget) left = Leaves (Some budget) spent left

-- the number of names
abbrev pub names_in : KnownFiles → ℕ
names_in known = length known.files.items

abbrev pub known_at : Option (Option KnownFile) → Option KnownFile
known_at None = None
known_at (Some file) = file

-- the file that is known by the number of a name
abbrev pub file_known : KnownFiles → ℕ → Option KnownFile
file_known known name = known_at (slice_get known.files.items name)
