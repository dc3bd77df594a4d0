use Rattle.std.proofs.Common.{◌≡◌, ◌++◌, map, take}
use Rattle.std.specs.Prelude.{All, flat_map}
use Rattle.cmap_values.specs.DeclarationsSeen.{bf_entry_seen}
use Rattle.cmap_text_writer.specs.Fits.{AreSmallUnits}
use Rattle.cmap_text_writer.specs.Layout.{next_text_spelled}
use Rattle.cmap_text_writer.proofs.ArraysTold.{texts_of}
use Rattle.cmap_text_writer.proofs.entries.push_next_texts.Given as goal

abbrev pub invariant-loop-entry : goal.invariant-loop-entry
invariant-loop-entry l = (l.out.items ≡ l.initial.out.items ++ flat_map next_text_spelled (texts_of (map bf_entry_seen (take l.entry-index l.entries)))) × All AreSmallUnits (texts_of (map bf_entry_seen (take l.entry-index l.entries)))
