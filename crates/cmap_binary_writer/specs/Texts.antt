-- Texts that one segment can hold, and their bytes.
use Rattle.std.specs.Prelude.{◌≡◌, ℕ, ◌<◌, ◌≤◌, ◌^◌, List, ◌∷◌, All, Any, Option, Some, None, flat_map, get_or, length, map}
use Rattle.cmap_values.specs.DeclarationsSeen.{bf_entry_seen, bf_range_span}
use Rattle.cmap_values.specs.UnitsSeen.{units_seen}
use Rattle.cmap_values.specs.declared.declarations.BfRange.{BfRange}
use Rattle.cmap_values.specs.declared.fault.Fault.{Fault}
use Rattle.cmap_values.specs.declared.fault.Fault.TheVariants.{Memory, Refused}
use Rattle.cmap_binary.specs.BinaryEntries.{Shape, ranges, singles}
use Rattle.cmap_binary.specs.BinaryFiles.{kind_of, texts}
use Rattle.cmap_binary_writer.specs.Held.{AreInOrder, AreShaped, HasShape}
use Rattle.cmap_binary_writer.specs.Pieces.{IsShortText}
use Rattle.cmap_binary_writer.specs.Written.{bytes_of}
use Rattle.cmap_binary_writer.specs.declared.obstacle.Obstacle.{Obstacle}
use Rattle.cmap_binary_writer.specs.declared.obstacle.Obstacle.TheVariants.{Text}

-- the obstacle is a text of these codes whose number of units doesn't fit in a byte, or memory ran out
abbrev pub IsLongTextIn : List BfRange → Fault Obstacle → Type 0
IsLongTextIn entries (Refused (Text range)) = Any (λ e. (e.range ≡ range) × (2 ^ 8 ≤ length (units_seen e.units))) entries
IsLongTextIn entries (Refused other) = ⊥
IsLongTextIn entries Memory = Unit {0}

-- segments of this shape can fix this number of units, or write a number before each text
abbrev pub CanFix : Shape → Option ℕ → Type 0
CanFix shape None = Unit {0}
CanFix ranges (Some n) = (1 ≤ n) × (n ≤ 2)
CanFix singles (Some n) = (1 ≤ n) × (n ≤ 4)

-- the type of segments of this shape that fix this number of units
abbrev pub IsNumberOf : Shape → Option ℕ → ℕ → Type 0
IsNumberOf shape fixed number = kind_of number ≡ Some (texts shape fixed)

-- the text of an entry has the fixed number of units, if a number is fixed
abbrev pub HasUnits : Option ℕ → BfRange → Type 0
HasUnits None e = Unit {0}
HasUnits (Some n) e = length (units_seen e.units) ≡ n

-- an entry that has a code has this shape, and its text has the fixed number of units
pub record HasForm (shape : Shape) (fixed : Option ℕ) (e : BfRange) : Type 0 where
  pub shaped : e.range.start ≤ e.range.end → HasShape shape e.range.start e.range.end
  pub counted : HasUnits fixed e

-- there is a first entry, and it has this form
pub record BeginsWithForm (shape : Shape) (fixed : Option ℕ) (entries : List BfRange) : Type 0 where
  pub filled : 0 < length entries
  pub first : (d : BfRange) → HasForm shape fixed (get_or entries 0 d)

-- the entry comes after the one before, and has this form
pub record FollowsText (shape : Shape) (fixed : Option ℕ) (before e : BfRange) : Type 0 where
  pub after : before.range.end < e.range.start
  pub form : HasForm shape fixed e

-- the entries that one segment can hold
pub record AreHeldTexts (shape : Shape) (fixed : Option ℕ) (entries : List BfRange) : Type 0 where
  pub order : AreInOrder 0 (map bf_range_span entries)
  pub shaped : AreShaped shape (map bf_range_span entries)
  pub counted : All (HasUnits fixed) entries
  pub short : All IsShortText (map bf_entry_seen entries)
  pub few : length entries < 2 ^ 16

-- the units of a text, with their number before them where it isn't fixed
abbrev pub destination : Option ℕ → List ℕ → List ℕ
destination None units = length units ∷ flat_map (λ n. bytes_of 2 n) units
destination (Some n) units = flat_map (λ n. bytes_of 2 n) units

abbrev pub destinations : Option ℕ → List BfRange → List ℕ
destinations fixed entries = flat_map (λ e. destination fixed (units_seen e.units)) entries
