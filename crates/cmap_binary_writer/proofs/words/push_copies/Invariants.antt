use Rattle.std.proofs.Common.{◌≡◌, ◌≤◌, ◌++◌, replicate}
use Rattle.cmap_binary_writer.proofs.words.push_copies.Given as goal

abbrev pub invariant-loop : goal.invariant-loop
invariant-loop l = (l.counter ≤ l.count) × (l.numbers.items ≡ l.initial.numbers.items ++ replicate l.counter l.number)
