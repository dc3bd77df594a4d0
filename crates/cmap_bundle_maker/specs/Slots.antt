-- The files of a bundle, each at the index of its name.
use Rattle.std.specs.Prelude.{◌≡◌, ◌==◌, ℕ, ◌+◌, ◌<◌, ◌^◌, ◌⊎◌, Bool, false, List, [], ◌∷◌, ◌++◌, All, IsSome, Option, Some, None, codes, get_or, length, if◌then◌else◌}
use Rattle.std.specs.Borrow.{Bor}
use Rattle.cmap_tokens.specs.Gaps.{ends_comment}
use Rattle.cmap_values.specs.CMapNames.{index_of_name}
use Rattle.cmap_values.specs.Files.{File}
use Rattle.cmap_values.specs.FilesSeen.{file_seen}
use Rattle.cmap_binary.specs.Bundles.{IsBundle, PrefixTables, no_file_bytes}
use Rattle.cmap_binary_writer.specs.Written.{IsFramedFile}
use Rattle.cmap_binary_writer.specs.Keeps.{IsWritten}
use Rattle.cmap_binary_writer.specs.Encoded.{HaveOneWordEach, IsEncoded}
use Rattle.cmap_binary_writer.specs.Obstacles.{IsObstacle, IsPreparedFor}
use Rattle.cmap_binary_writer.specs.PreparedFiles.{IsPrepared}
use Rattle.cmap_binary_writer.specs.declared.obstacle.Obstacle.{Obstacle}
use Rattle.cmap_bundle_maker.specs.Bundled.{IsFileWritten}
use Rattle.cmap_bundle_maker.specs.Gathered.{AreTablesFor}
use Rattle.cmap_bundle_maker.specs.declared.slots.Slot.{Slot}
use Rattle.cmap_bundle_maker.specs.declared.slots.Slot.TheVariants as slot
use Rattle.cmap_bundle_maker.specs.declared.source.Source.{Source}

-- how many names have a place in a bundle
abbrev pub places : ℕ
places = 65

-- each name has a place
abbrev pub AllHavePlaces : List Source → Type 0
AllHavePlaces sources = All (λ source. IsSome (index_of_name source.name)) sources

abbrev pub is_index : Option ℕ → ℕ → Bool
is_index None place = false
is_index (Some index) place = index == place

-- the first of the sources whose name has this index
abbrev pub source_at : List Source → ℕ → Option Source
source_at [] place = None
source_at (source ∷ sources) place = if is_index (index_of_name source.name) place then Some source else source_at sources place

-- a comment with a length in four bytes, the text, and spaces
abbrev pub IsTextBehind : List ℕ → List ℕ → Type 0
IsTextBehind text bytes = (size : List ℕ) × (spaces : List ℕ) × (bytes ≡ (codes "% text" ++ size) ++ (10 ∷ (text ++ spaces))) × All (λ b. ends_comment b ≡ false) size × All (λ b. b ≡ 32) spaces × IsFramedFile bytes × (length size ≡ 4)

-- the file has an obstacle in the binary form
abbrev pub IsUnsayable : File → Type 0
IsUnsayable file = (obstacle : Obstacle) × IsObstacle file obstacle

-- the bytes of a bundle for a name: the file of its source in the binary form, or, if the file has an obstacle, its text behind a comment; without a source, the bytes of an absent file
abbrev pub IsFileFor : PrefixTables → Option Source → List ℕ → Type 0
IsFileFor tables None bytes = bytes ≡ no_file_bytes
IsFileFor tables (Some source) bytes = IsFileWritten tables (file_seen source.file.now) bytes ⊎ (IsUnsayable (file_seen source.file.now) × ((text : Bor (List ℕ)) × (source.text ≡ Some text) × IsTextBehind text.now bytes))

-- the slot that is to be written for a name
abbrev pub IsSlotFor : Option Source → Slot → Type 0
IsSlotFor None slot.Absent = Unit {0}
IsSlotFor (Some source) (slot.File prepared) = IsPreparedFor (file_seen source.file.now) prepared
IsSlotFor (Some source) (slot.Text text) = IsUnsayable (file_seen source.file.now) × (source.text ≡ Some text)
IsSlotFor _ _ = ⊥

abbrev pub AreSlotsFor : List Source → List Slot → ℕ → Type 0
AreSlotsFor sources slots count = (length slots ≡ count) × ((place : ℕ) (d : Slot) → place < count → IsSlotFor (source_at sources place) (get_or slots place d))

-- each name has a place, and the bytes are a bundle with the tables for all numbers of the files; at the index of each known name, the bundle has the file of the first source of this name
pub record IsNamedBundle (sources : List Source) (bytes : List ℕ) : Type 0 where
  pub named : AllHavePlaces sources
  pub tables : PrefixTables
  pub texts : List (List ℕ)
  pub is : IsBundle bytes (record { tables = tables; files = texts })
  pub all : length texts ≡ places
  pub each : (place : ℕ) (d : List ℕ) → place < places → IsFileFor tables (source_at sources place) (get_or texts place d)
  pub slots : List Slot
  pub made : AreSlotsFor sources slots places
  pub spelled : AreTablesFor slots tables

-- ---- private aid
-- these bytes are the written slot
abbrev pub IsSlotWritten : PrefixTables → Slot → List ℕ → Type 0
IsSlotWritten tables (slot.File prepared) bytes = IsEncoded tables prepared bytes × IsFramedFile bytes × ((file : File) → IsPrepared file prepared → IsWritten tables file bytes)
IsSlotWritten tables (slot.Text text) bytes = IsTextBehind text.now bytes × (11 + length text.now < 2 ^ 32)
IsSlotWritten tables slot.Absent bytes = bytes ≡ no_file_bytes

abbrev pub AreSlotsWritten : PrefixTables → List Slot → List (List ℕ) → Type 0
AreSlotsWritten tables [] [] = Unit {0}
AreSlotsWritten tables (s ∷ slots) (text ∷ texts) = IsSlotWritten tables s text × AreSlotsWritten tables slots texts
AreSlotsWritten tables slots texts = ⊥

-- the bytes are a bundle of the written slots, with the tables for their numbers
abbrev pub IsBundleOfSlots : List Slot → List ℕ → Type 0
IsBundleOfSlots slots bytes = (tables : PrefixTables) × (texts : List (List ℕ)) × IsBundle bytes (record { tables = tables; files = texts }) × AreSlotsWritten tables slots texts × AreTablesFor slots tables × HaveOneWordEach tables
