use Rattle.std.proofs.Common.{◌≡◌, ◌++◌, take}
use Rattle.std.specs.Prelude.{All, flat_map}
use Rattle.cmap_values.specs.DeclarationsSeen.{entries_seen}
use Rattle.cmap_values.specs.CodeLengths.{length_of}
use Rattle.cmap_text.specs.TextSeen.{extent_seen}
use Rattle.cmap_text_writer.specs.Fits.{IsSmallCid}
use Rattle.cmap_text_writer.specs.Spelled.{cid_spelled}
use Rattle.cmap_text_writer.proofs.entries.push_cid_entries.Given as goal

abbrev pub invariant-loop-entry : goal.invariant-loop-entry
invariant-loop-entry l = (l.out.items ≡ l.initial.out.items ++ flat_map (cid_spelled (length_of l.len) (extent_seen l.extent)) (entries_seen (take l.entry-index l.entries))) × All IsSmallCid (entries_seen (take l.entry-index l.entries))
