use Rattle.std.proofs.Common.{◌≡◌, ◌++◌, map, take}
use Rattle.std.specs.Prelude.{All, flat_map}
use Rattle.cmap_values.specs.DeclarationsSeen.{bf_entry_seen}
use Rattle.cmap_text_writer.specs.Fits.{IsSmallText}
use Rattle.cmap_text_writer.specs.Layout.{char_spelled}
use Rattle.cmap_text_writer.specs.Lengths.{text_length}
use Rattle.cmap_text_writer.proofs.entries.push_chars.Given as goal

abbrev pub invariant-loop-entry : goal.invariant-loop-entry
invariant-loop-entry l = (l.out.items ≡ l.initial.out.items ++ flat_map (char_spelled (text_length l.lengths)) (map bf_entry_seen (take l.entry-index l.entries))) × All IsSmallText (map bf_entry_seen (take l.entry-index l.entries))
