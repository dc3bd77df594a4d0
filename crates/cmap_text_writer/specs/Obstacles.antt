-- The content of a file that no text can represent.
use Rattle.std.specs.Prelude.{◌≡◌, ◌⊎◌, ℕ, ◌≤◌, ◌^◌, List, Any, IsSomeAnd, length}
use Rattle.cmap_values.specs.declared.range.Range.{Range}
use Rattle.cmap_values.specs.Files.{BfEntry, ByLength, CidEntry, Codespace, File, Lists, of_length}
use Rattle.cmap_text.specs.TextFiles.{IsTextFile}
use Rattle.cmap_text_writer.specs.Fits.{AllBytes, HasOwnFamily, IsName, IsSayableName}
use Rattle.cmap_text_writer.specs.declared.obstacle.Obstacle.{Obstacle}
use Rattle.cmap_text_writer.specs.declared.obstacle.Obstacle.TheVariants.{CustomFamily, EmptyText, LargeCode, Name, Use}

-- no text of bytes represents the file
abbrev pub NoTextSays : File → Type 0
NoTextSays file = (text : List ℕ) → AllBytes text → IsTextFile text file → ⊥

-- the code is one of two ends, and doesn't fit in this many bytes
abbrev pub IsLargeEnd : ℕ → ℕ → ℕ → ℕ → Type 0
IsLargeEnd code len low high = ((code ≡ low) ⊎ (code ≡ high)) × (256 ^ len ≤ code)

-- a declaration begins with the code, which doesn't fit in this many bytes
abbrev pub BeginsLarge : ℕ → ℕ → CidEntry → Type 0
BeginsLarge code len e = (e.start ≡ code) × (256 ^ len ≤ code)

-- in the list for codes of some length a declaration begins with the code, which is too large
abbrev pub HasLargeStart : ℕ → ByLength → Type 0
HasLargeStart code lists = (len : ℕ) × Any (BeginsLarge code len) (of_length lists len)

-- a declaration of these codes has no units
abbrev pub IsEmptyText : Range → BfEntry → Type 0
IsEmptyText range e = (e.start ≡ range.start) × (e.end ≡ range.end) × (length e.units ≡ 0)

abbrev pub IsObstacle : File → Obstacle → Type 0
IsObstacle file Use = Any (λ n. IsName n → ⊥) file.uses
IsObstacle file Name = IsSomeAnd file.metadata.name (λ n. IsSayableName n → ⊥)
IsObstacle file CustomFamily = IsSomeAnd file.metadata.collection (λ c. HasOwnFamily c → ⊥)
IsObstacle file (LargeCode code) = Any (λ s. IsLargeEnd code s.len s.low s.high) file.lists.spaces ⊎ (HasLargeStart code file.lists.notdefs ⊎ HasLargeStart code file.lists.cids)
IsObstacle file (EmptyText range) = Any (IsEmptyText range) file.lists.bfs

-- ---- private aid: obstacles in parts of a file
abbrev pub IsSpacesObstacle : List Codespace → Obstacle → Type 0
IsSpacesObstacle spaces (LargeCode code) = Any (λ s. IsLargeEnd code s.len s.low s.high) spaces
IsSpacesObstacle spaces other = ⊥

abbrev pub IsCidsObstacle : ℕ → List CidEntry → Obstacle → Type 0
IsCidsObstacle len es (LargeCode code) = Any (BeginsLarge code len) es
IsCidsObstacle len es other = ⊥

abbrev pub IsByLengthObstacle : ByLength → Obstacle → Type 0
IsByLengthObstacle lists (LargeCode code) = HasLargeStart code lists
IsByLengthObstacle lists other = ⊥

abbrev pub IsTextsObstacle : List BfEntry → Obstacle → Type 0
IsTextsObstacle es (EmptyText range) = Any (IsEmptyText range) es
IsTextsObstacle es other = ⊥

abbrev pub IsListsObstacle : Lists → Obstacle → Type 0
IsListsObstacle lists (LargeCode code) = Any (λ s. IsLargeEnd code s.len s.low s.high) lists.spaces ⊎ (HasLargeStart code lists.notdefs ⊎ HasLargeStart code lists.cids)
IsListsObstacle lists (EmptyText range) = Any (IsEmptyText range) lists.bfs
IsListsObstacle lists other = ⊥
