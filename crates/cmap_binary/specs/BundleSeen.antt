-- What contracts see of a bundle: its tables and its files.
use Rattle.std.specs.Prelude.{Option, option_map}
use Rattle.std.specs.Borrow.{Bor}
use Rattle.cmap_binary.specs.Bundles as bundles
use Rattle.cmap_values.specs.NamesSeen.{names_seen}
use Rattle.cmap_binary.specs.declared.bundle.Bundle.{Bundle}
use Rattle.cmap_binary.specs.declared.bundle.Tables.{Tables}

abbrev pub tables_seen : Tables → bundles.PrefixTables
tables_seen tables = record { delta = tables.delta; count = tables.count }

-- the tables of a bundle, if a bundle is given
abbrev pub tables_given : Option (Bor Bundle) → Option bundles.PrefixTables
tables_given bundle = option_map (λ b. tables_seen b.now.tables) bundle

abbrev pub bundle_seen : Bundle → bundles.Bundle
bundle_seen bundle = record { tables = tables_seen bundle.tables; files = names_seen bundle.files.items }
