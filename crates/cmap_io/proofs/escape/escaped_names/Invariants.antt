use Rattle.std.proofs.Common.{◌≡◌, map, take, vec_items}
use Rattle.serde_json.specs.Data.{string}
use Rattle.cmap_io.specs.Escapes.{name_shown}
use Rattle.cmap_io.specs.Values.{view}
use Rattle.cmap_io.proofs.escape.escaped_names.Given as goal

abbrev pub invariant-loop-name : goal.invariant-loop-name
invariant-loop-name l = map view (vec_items l.values) ≡ map (λ name. string (name_shown name.now)) (take l.name-index l.names)
