-- The numbers that spell files, and the tables for these numbers.
use Rattle.std.specs.Prelude.{◌≡◌, ℕ, List, [], Some, flat_map}
use Rattle.cmap_binary.specs.Bundles.{PrefixTables}
use Rattle.cmap_binary_writer.specs.declared.segments.Segment.{Segment}
use Rattle.cmap_bundle_maker.specs.Tables.{table_for}
use Rattle.cmap_bundle_maker.specs.declared.slots.Slot.{Slot}
use Rattle.cmap_bundle_maker.specs.declared.slots.Slot.TheVariants.{Absent, File, Text}

abbrev pub deltas_in : List Segment → List ℕ
deltas_in segments = flat_map (λ s. s.deltas.items) segments

abbrev pub counts_in : List Segment → List ℕ
counts_in segments = flat_map (λ s. s.counts.items) segments

-- the segments of one file; none if the file isn't in the binary form
abbrev pub slot_segments : Slot → List Segment
slot_segments (File prepared) = prepared.segments.items
slot_segments (Text text) = []
slot_segments Absent = []

-- the segments of all files, in order
abbrev pub segments_in : List Slot → List Segment
segments_in slots = flat_map slot_segments slots

-- the tables for all numbers of these files
pub record AreTablesFor (slots : List Slot) (tables : PrefixTables) : Type 0 where
  pub deltas : table_for (deltas_in (segments_in slots)) ≡ Some tables.delta
  pub counts : table_for (counts_in (segments_in slots)) ≡ Some tables.count
