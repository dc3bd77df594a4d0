use Rattle.std.proofs.Common.{map, take}
use Rattle.std.specs.Prelude.{All}
use Rattle.cmap_values.specs.DeclarationsSeen.{codespace_seen}
use Rattle.cmap_text_writer.specs.Fits.{IsSpaceFitting}
use Rattle.cmap_text_writer.proofs.check.check_spaces.Given as goal

abbrev pub invariant-loop-space : goal.invariant-loop-space
invariant-loop-space l = All IsSpaceFitting (map codespace_seen (take l.space-index l.spaces))
