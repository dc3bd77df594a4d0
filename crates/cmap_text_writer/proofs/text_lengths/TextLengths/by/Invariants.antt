use Rattle.std.proofs.Common.{map, take}
use Rattle.cmap_values.specs.DeclarationsSeen.{codespace_seen}
use Rattle.cmap_values.specs.declared.code_length.CodeLength.TheVariants.{Two}
use Rattle.cmap_text_writer.specs.Lengths.{AreBounds}
use Rattle.cmap_text_writer.proofs.text_lengths.TextLengths.by.Given as goal

abbrev pub invariant-loop-space : goal.invariant-loop-space
invariant-loop-space l = AreBounds l.lengths Two (map codespace_seen (take l.space-index l.spaces))
