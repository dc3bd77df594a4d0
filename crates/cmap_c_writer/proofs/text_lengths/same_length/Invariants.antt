use Rattle.std.proofs.Common.{◌≡◌, None, drop}
use Rattle.cmap_c_writer.specs.Given.{same_after}
use Rattle.cmap_c_writer.proofs.text_lengths.same_length.Given as goal

abbrev pub invariant-loop-declaration : goal.invariant-loop-declaration
invariant-loop-declaration l = same_after None l.declarations ≡ same_after l.same (drop l.declaration-index l.declarations)
