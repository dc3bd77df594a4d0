use Rattle.std.proofs.Common.{◌≡◌, take}
use Rattle.cmap_values.specs.NamesSeen.{names_seen}
use Rattle.cmap_binary.specs.Copies.{copies_seen}
use Rattle.cmap_binary.proofs.owned_bundle.copied.Given as goal

abbrev pub invariant-loop-file : goal.invariant-loop-file
invariant-loop-file l = copies_seen l.copies.items ≡ names_seen (take l.file-index l.files)
