use Rattle.std.proofs.Common.{◌≡◌, ◌++◌, map, take}
use Rattle.std.specs.Prelude.{flat_map}
use Rattle.cmap_values.specs.DeclarationsSeen.{codespace_seen}
use Rattle.cmap_text_writer.specs.Spelled.{space_spelled}
use Rattle.cmap_text_writer.proofs.entries.push_spaces.Given as goal

abbrev pub invariant-loop-space : goal.invariant-loop-space
invariant-loop-space l = l.out.items ≡ l.initial.out.items ++ flat_map space_spelled (map codespace_seen (take l.space-index l.spaces))
