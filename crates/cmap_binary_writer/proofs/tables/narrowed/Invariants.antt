use Rattle.std.proofs.Common.{◌≡◌, take}
use Rattle.cmap_binary_writer.proofs.tables.narrowed.Given as goal

-- those so far
abbrev pub invariant-loop-number : goal.invariant-loop-number
invariant-loop-number l = l.narrow.items ≡ take l.number-index l.numbers
