-- What contracts see of units.
use Rattle.std.specs.Prelude.{ℕ, List, []}
use Rattle.cmap_values.specs.declared.units.Units.{Units}
use Rattle.cmap_values.specs.declared.units.Units.TheVariants.{Empty, One, Two, Three, Four, More}

abbrev pub units_seen : Units → List ℕ
units_seen Empty = []
units_seen (One units) = units
units_seen (Two units) = units
units_seen (Three units) = units
units_seen (Four units) = units
units_seen (More units) = units.value.items
