use Rattle.std.proofs.Common.{All, ◌<◌, ◌^◌, length, take}
use Rattle.cmap_values.specs.UnitsSeen.{units_seen}
use Rattle.cmap_binary_writer.proofs.texts.check_units.Given as goal

abbrev pub invariant-loop-range : goal.invariant-loop-range
invariant-loop-range l = All (λ e. length (units_seen e.units) < 2 ^ 8) (take l.range-index l.ranges)
