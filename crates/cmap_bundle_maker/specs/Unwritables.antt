-- Why a bundle can't be written, and which source is at fault.
use Rattle.std.specs.Prelude.{◌≡◌, ℕ, ◌+◌, ◌≤◌, ◌<◌, ◌^◌, ◌⊎◌, List, All, Any, Option, Some, None, length, slice_get, take}
use Rattle.cmap_values.specs.CMapNames.{index_of_name}
use Rattle.cmap_values.specs.Files.{File}
use Rattle.cmap_values.specs.FilesSeen.{file_seen}
use Rattle.cmap_binary.specs.Bundles.{PrefixTables}
use Rattle.cmap_binary_writer.specs.Obstacles.{HasNoWord, IsLarge, IsLongBy, IsObstacle}
use Rattle.cmap_binary_writer.specs.declared.obstacle.Obstacle.{Obstacle}
use Rattle.cmap_binary_writer.specs.declared.obstacle.Obstacle.TheVariants.{NoPlace, NoWord, TooLong}
use Rattle.cmap_binary_writer.specs.declared.segments.Segment.{Segment}
use Rattle.cmap_bundle_maker.specs.Bundled.{HaveSymbols}
use Rattle.cmap_bundle_maker.specs.Gathered.{AreTablesFor, deltas_in, segments_in, slot_segments}
use Rattle.cmap_bundle_maker.specs.Slots.{AllHavePlaces, AreSlotsFor, places, source_at}
use Rattle.cmap_bundle_maker.specs.Tables.{table_for}
use Rattle.cmap_bundle_maker.specs.declared.slots.Slot.{Slot}
use Rattle.cmap_bundle_maker.specs.declared.slots.Slot.TheVariants as slot
use Rattle.cmap_bundle_maker.specs.declared.unwritable.Unwritable.{Unwritable}
use Rattle.cmap_bundle_maker.specs.declared.source.Source.{Source}

-- ---- one source
-- the first of the sources whose name has no place
pub record IsPlaceless (sources : List Source) (index : ℕ) : Type 0 where
  pub source : Source
  pub at_index : slice_get sources index ≡ Some source
  pub placeless : index_of_name source.name ≡ None
  pub before : AllHavePlaces (take index sources)

-- all names have places, and each place below the place of the source has a slot to write; the source is the first source of its name, has no text, and can't be written because of this obstacle
pub record IsUnwritable (sources : List Source) (index : ℕ) (obstacle : Obstacle) : Type 0 where
  pub source : Source
  pub at_index : slice_get sources index ≡ Some source
  pub obstacle_is : IsObstacle (file_seen source.file.now) obstacle
  pub textless : source.text ≡ None
  pub place : ℕ
  pub named : index_of_name source.name ≡ Some place
  pub first : source_at (take index sources) place ≡ None
  pub all : AllHavePlaces sources
  pub below : (slots : List Slot) × AreSlotsFor sources slots place

-- ---- the bundle as a whole
-- the file, or the text with its comment, is too long
abbrev pub IsLongSlot : PrefixTables → Slot → Type 0
IsLongSlot tables (slot.File prepared) = IsLongBy tables prepared
IsLongSlot tables (slot.Text text) = 2 ^ 32 ≤ 11 + length text.now
IsLongSlot tables slot.Absent = ⊥

-- one of these slots is too long by the tables for their numbers
pub record HasLongSlot (slots : List Slot) : Type 0 where
  pub tables : PrefixTables
  pub spelled : AreTablesFor slots tables
  pub long : Any (IsLongSlot tables) slots

-- these slots can't stand in one bundle: there is no table for their deltas, or a slot is too long
abbrev pub IsWholeObstacle : List Slot → Obstacle → Type 0
IsWholeObstacle slots NoWord = table_for (deltas_in (segments_in slots)) ≡ None
IsWholeObstacle slots TooLong = HasLongSlot slots
IsWholeObstacle slots other = ⊥

-- ---- bundles
-- the source at the index is at fault; without an index, each place has a slot to write, and the slots together can't be written
abbrev pub IsObstacleOf : List Source → Option ℕ → Obstacle → Type 0
IsObstacleOf sources (Some index) NoPlace = IsPlaceless sources index
IsObstacleOf sources (Some index) other = IsUnwritable sources index other
IsObstacleOf sources None obstacle = AllHavePlaces sources × ((slots : List Slot) × AreSlotsFor sources slots places × IsWholeObstacle slots obstacle)

abbrev pub IsUnwritableOf : List Source → Unwritable → Type 0
IsUnwritableOf sources unwritable = IsObstacleOf sources unwritable.index unwritable.obstacle

-- ---- private aid
-- the first source at a place has no text and can't be written
pub record IsUnwritableAt (sources : List Source) (place : ℕ) (unwritable : Unwritable) : Type 0 where
  pub index : ℕ
  pub is : unwritable.index ≡ Some index
  pub source : Source
  pub at_index : slice_get sources index ≡ Some source
  pub obstacle_is : IsObstacle (file_seen source.file.now) unwritable.obstacle
  pub textless : source.text ≡ None
  pub named : index_of_name source.name ≡ Some place
  pub first : source_at (take index sources) place ≡ None

-- this source, at this index, has no text and can't be written
abbrev pub IsUnwritableAs : Source → ℕ → Unwritable → Type 0
IsUnwritableAs source index unwritable = (unwritable.index ≡ Some index) × (source.text ≡ None) × IsObstacle (file_seen source.file.now) unwritable.obstacle

-- a segment with deltas of four bytes and counts of one byte that isn't too large
pub record IsSound (segment : Segment) : Type 0 where
  pub deltas : All (λ n. n < 2 ^ 32) segment.deltas.items
  pub counts : All (λ n. n < 2 ^ 8) segment.counts.items
  pub small : IsLarge segment → ⊥

abbrev pub AreSound : List Slot → Type 0
AreSound slots = All IsSound (segments_in slots)

-- the obstacle to writing a slot, or slots, by these tables
abbrev pub IsSlotObstacle : PrefixTables → Slot → Obstacle → Type 0
IsSlotObstacle tables s NoWord = Any (HasNoWord tables) (slot_segments s)
IsSlotObstacle tables s TooLong = Any IsLarge (slot_segments s) ⊎ IsLongSlot tables s
IsSlotObstacle tables s other = ⊥

abbrev pub IsSlotsObstacle : PrefixTables → List Slot → Obstacle → Type 0
IsSlotsObstacle tables slots obstacle = Any (λ s. IsSlotObstacle tables s obstacle) slots

-- the obstacle to writing these slots by these tables, or to writing the tables themselves
abbrev pub IsTablesObstacle : PrefixTables → List Slot → Obstacle → Type 0
IsTablesObstacle tables slots NoWord = (HaveSymbols tables → ⊥) ⊎ IsSlotsObstacle tables slots NoWord
IsTablesObstacle tables slots other = IsSlotsObstacle tables slots other
