use Rattle.std.proofs.Common.{◌≡◌, ◌++◌, take, vec_items}
use Rattle.std.specs.List.{concat}
use Rattle.cmap_values.specs.NamesSeen.{names_seen}
use Rattle.cmap_handles.proofs.names.push_names.Given as goal

abbrev pub invariant-loop-name : goal.invariant-loop-name
invariant-loop-name l = vec_items l.bytes ≡ vec_items l.initial.bytes ++ concat (names_seen (take l.name-index l.names))
