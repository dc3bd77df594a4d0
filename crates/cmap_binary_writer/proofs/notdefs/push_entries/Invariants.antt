use Rattle.std.proofs.Common.{◌≡◌, ◌++◌, take}
use Rattle.std.specs.List.{All, flat_map}
use Rattle.cmap_values.specs.CodeLengths.{length_of}
use Rattle.cmap_values.specs.DeclarationsSeen.{entries_seen}
use Rattle.cmap_binary_writer.specs.Fields.{NotdefFits, notdef_bytes}
use Rattle.cmap_binary_writer.proofs.notdefs.push_entries.Given as goal

abbrev pub invariant-loop-entry : goal.invariant-loop-entry
invariant-loop-entry l = record {
  fit : All (NotdefFits (length_of l.len)) (entries_seen (take l.entry-index l.entries));
  bytes : l.out.items ≡ l.initial.out.items ++ flat_map (notdef_bytes (length_of l.len)) (entries_seen (take l.entry-index l.entries));
}
