-- The values that contracts see for the code words of a bundle and for the shape of entries.
use Rattle.cmap_binary.specs.Bundles.{PrefixTables}
use Rattle.cmap_binary.specs.BinaryEntries as entries
use Rattle.cmap_binary_writer.specs.declared.columns.Encoders.{Encoders}
use Rattle.cmap_binary_writer.specs.declared.columns.Shape.{Shape}
use Rattle.cmap_binary_writer.specs.declared.columns.Shape.TheVariants.{Ranges, Singles}

abbrev pub encoders_seen : Encoders → PrefixTables
encoders_seen tables = record { delta = tables.delta; count = tables.count }

abbrev pub shape_seen : Shape → entries.Shape
shape_seen Ranges = entries.ranges
shape_seen Singles = entries.singles
