-- Private aid: entries that follow each other in a segment.
use Rattle.std.specs.Prelude.{◌≡◌, ℕ, ◌+◌, ◌-◌, ◌<◌, List, length, get_or}
use Rattle.cmap_values.specs.declared.declarations.CidRange.{CidRange}
use Rattle.cmap_binary.specs.BinaryEntries.{Shape}
use Rattle.cmap_binary_writer.specs.Held.{HasShape}

-- the entry comes after the one before, has a CID other than 0, and has this shape
pub record Follows (shape : Shape) (before entry : CidRange) : Type 0 where
  pub own : 0 < entry.cid
  pub after : before.range.end < entry.range.start
  pub shaped : HasShape shape entry.range.start entry.range.end

-- there is an entry at this index, and it has this shape
abbrev pub HasShapeOf : Shape → List CidRange → ℕ → Type 0
HasShapeOf shape entries i = (i < length entries) × ((d : CidRange) → HasShape shape (get_or entries i d).range.start (get_or entries i d).range.end)

-- the range begins just after the last one, and its CIDs go on from the CIDs of the last one
pub record GoesOn (last range : CidRange) : Type 0 where
  pub next : range.range.start ≡ last.range.end + 1
  pub cids : range.cid ≡ last.cid + (range.range.start - last.range.start)
