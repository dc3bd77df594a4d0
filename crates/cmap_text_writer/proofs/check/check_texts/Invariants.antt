use Rattle.std.proofs.Common.{map, take}
use Rattle.std.specs.Prelude.{All}
use Rattle.cmap_values.specs.DeclarationsSeen.{bf_entry_seen}
use Rattle.cmap_text_writer.specs.Fits.{HasUnits}
use Rattle.cmap_text_writer.proofs.check.check_texts.Given as goal

abbrev pub invariant-loop-entry : goal.invariant-loop-entry
invariant-loop-entry l = All HasUnits (map bf_entry_seen (take l.entry-index l.entries))
