use Rattle.std.proofs.Common.{◌≡◌, ◌-◌, ◌≤◌, replicate, vec_len}
use Rattle.cmap_codespaces.specs.SpaceBits.{front_row_count}
use Rattle.cmap_codespaces.proofs.lengths.no_lengths.Given as goal

abbrev pub invariant-loop-rows : goal.invariant-loop-rows
invariant-loop-rows l = record {
  cleared : l.rows.items ≡ replicate (vec_len l.rows) 0;
  within : vec_len l.rows ≤ front_row_count;
}

abbrev pub decreases-loop-rows : goal.decreases-loop-rows
decreases-loop-rows l = front_row_count - vec_len l.rows
