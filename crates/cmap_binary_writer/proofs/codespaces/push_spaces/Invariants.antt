use Rattle.std.proofs.Common.{◌≡◌, ◌++◌, map, take}
use Rattle.std.specs.List.{All, flat_map}
use Rattle.cmap_values.specs.DeclarationsSeen.{codespace_seen}
use Rattle.cmap_binary_writer.specs.Fields.{SpaceFits, space_bytes}
use Rattle.cmap_binary_writer.proofs.codespaces.push_spaces.Given as goal

abbrev pub invariant-loop-space : goal.invariant-loop-space
invariant-loop-space l = record {
  fit : All SpaceFits (map codespace_seen (take l.space-index l.spaces));
  bytes : l.out.items ≡ l.initial.out.items ++ flat_map space_bytes (map codespace_seen (take l.space-index l.spaces));
}
