use Rattle.std.proofs.Common.{map, take}
use Rattle.cmap_values.specs.DeclarationsSeen.{bf_entry_seen}
use Rattle.cmap_text_writer.specs.Fits.{IsRow}
use Rattle.cmap_text_writer.proofs.runs.count_row.Given as goal

abbrev pub invariant-loop-i : goal.invariant-loop-i
invariant-loop-i l = IsRow l.start (map bf_entry_seen (take l.i l.entries))
