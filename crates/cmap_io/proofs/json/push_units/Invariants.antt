use Rattle.std.proofs.Common.{◌≡◌, ◌++◌, take, string_bytes}
use Rattle.std.specs.List.{flat_map}
use Rattle.cmap_io.specs.Escapes.{AddsPrintable}
use Rattle.cmap_io.specs.Json.{unit_escaped}
use Rattle.cmap_io.proofs.json.push_units.Given as goal

abbrev pub invariant-loop-unit : goal.invariant-loop-unit
invariant-loop-unit l = AddsPrintable (string_bytes l.initial.out) (string_bytes l.out)
    × (string_bytes l.out ≡ string_bytes l.initial.out ++ flat_map unit_escaped (take l.unit-index l.unit-items))
