use Rattle.std.proofs.Common.{◌≡◌, ◌++◌, take}
use Rattle.cmap_binary_writer.specs.Texts.{destinations}
use Rattle.cmap_binary_writer.proofs.texts.push_texts.Given as goal

abbrev pub invariant-loop-entry : goal.invariant-loop-entry
invariant-loop-entry l = l.out.items ≡ l.initial.out.items ++ destinations l.fixed (take l.entry-index l.entries)
