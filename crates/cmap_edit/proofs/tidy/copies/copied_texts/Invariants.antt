use Rattle.std.proofs.Common.{◌≡◌, take, map}
use Rattle.cmap_values.specs.DeclarationsSeen.{bf_entry_seen}
use Rattle.cmap_edit.proofs.tidy.copies.copied_texts.Given as goal

abbrev pub invariant-loop-entry : goal.invariant-loop-entry
invariant-loop-entry l = map bf_entry_seen l.copy.items ≡ map bf_entry_seen (take l.entry-index l.list)
