use Rattle.std.proofs.Common.{◌≡◌, take}
use Rattle.cmap_edit.proofs.tidy.copies.copied_cids.Given as goal

abbrev pub invariant-loop-entry : goal.invariant-loop-entry
invariant-loop-entry l = l.copy.items ≡ take l.entry-index l.list
