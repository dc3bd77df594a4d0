-- Private aid: what contracts see of the columns of a segment.
use Rattle.std.specs.Prelude.{option_map}
use Rattle.cmap_binary.specs.BitQueues.{bits_ahead}
use Rattle.cmap_values.specs.Spans.{Span}
use Rattle.cmap_values.specs.declared.range.Range.{Range}
use Rattle.cmap_binary.specs.BinaryEntries as entries
use Rattle.cmap_binary.specs.EntryByEntry as each
use Rattle.cmap_binary.specs.declared.columns.Columns.{Columns}
use Rattle.cmap_binary.specs.declared.columns.Shape.{Shape}
use Rattle.cmap_binary.specs.declared.columns.Shape.TheVariants.{Ranges, Singles}
use Rattle.cmap_binary.specs.declared.entries.CidColumns.{CidColumns}

abbrev pub shape_seen : Shape → entries.Shape
shape_seen Ranges = entries.ranges
shape_seen Singles = entries.singles

abbrev pub columns_seen : Columns → each.Columns
columns_seen columns = record { deltas = bits_ahead columns.deltas; counts = option_map bits_ahead columns.counts; base = columns.base }

abbrev pub cid_columns_seen : CidColumns → each.CidColumns
cid_columns_seen left = record { columns = columns_seen left.columns; raws = left.raws.now; next = left.next }

abbrev pub span_seen : Range → Span
span_seen range = record { start = range.start; end = range.end }
