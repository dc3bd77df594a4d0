-- Bundles: prefix tables, and files by their indices.
use Rattle.std.specs.Prelude.{ℕ, List, [], ◌∷◌, ◌++◌, codes}
use Rattle.cmap_binary.specs.PrefixWords.{CodeWord}
use Rattle.cmap_binary.specs.TableFronts.{TableAt}
use Rattle.cmap_binary.specs.Fronts.{Then, Gives, AllOf, FramedAt, SizedAt}

-- the prefix tables of a bundle: one for deltas and one for counts
pub record PrefixTables : Type 0 where
  pub delta : List CodeWord
  pub count : List CodeWord

-- a bundle: its tables, and its files index by index
pub record Bundle : Type 0 where
  pub tables : PrefixTables
  pub files : List (List ℕ)

-- a text that begins with the two tables; the bytes after them are ignored
abbrev pub HoldsTables : List ℕ → PrefixTables → Type 0
HoldsTables text = Then (TableAt 4 text) (λ delta mid. Then (TableAt 1 mid) (λ count ignored. Gives (record { delta = delta; count = count })))

-- the bytes are a bundle: a sized piece with these tables, and then these files, each of which declares its length after six bytes that aren't checked
unfoldable pub IsBundle : List ℕ → Bundle → Type 0
IsBundle bytes = Then (SizedAt bytes) (λ text rest bundle. HoldsTables text bundle.tables × AllOf (FramedAt 6) rest bundle.files)

-- ten bytes in a bundle in place of a missing file, which no reader accepts as a file: the head of a binary file of version 0, and the number of these bytes
abbrev pub no_file_bytes : List ℕ
no_file_bytes = codes "bcmap" ++ 0 ∷ 0 ∷ 0 ∷ 0 ∷ 10 ∷ []
