use Rattle.std.proofs.Common.{◌≡◌, ◌++◌, take}
use Rattle.std.specs.List.{All}
use Rattle.cmap_values.specs.NamesSeen.{names_seen}
use Rattle.cmap_binary_writer.specs.Fields.{NameFits, uses_bytes}
use Rattle.cmap_binary_writer.proofs.metadata.push_uses.Given as goal

abbrev pub invariant-loop-name : goal.invariant-loop-name
invariant-loop-name l = record {
  fit : All NameFits (names_seen (take l.name-index l.names));
  bytes : l.out.items ≡ l.initial.out.items ++ uses_bytes (names_seen (take l.name-index l.names));
}
