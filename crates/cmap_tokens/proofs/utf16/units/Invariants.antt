use Rattle.std.proofs.Common.{◌≡◌, ◌+◌, ◌++◌, ◌/◌, ◌%◌, ◌≤◌, length, vec_len, vec_capacity}
use Rattle.cmap_tokens.specs.Texts.{byte_pairs, units_of}
use Rattle.cmap_tokens.proofs.utf16.units.Given as goal

abbrev pub invariant-loop-pairs : goal.invariant-loop-pairs
invariant-loop-pairs l = record {
  written : l.units.items ++ byte_pairs l.pairs ≡ units_of l.bytes;
  even : length l.pairs % 2 ≡ 0;
  room : vec_len l.units + length l.pairs / 2 ≤ vec_capacity l.units;
}

abbrev pub decreases-loop-pairs : goal.decreases-loop-pairs
decreases-loop-pairs l = length l.pairs
