use Rattle.std.proofs.Common.{◌≡◌, ◌-◌, ◌≤◌, replicate, vec_len}
use Rattle.cmap_codespaces.specs.SpaceBits.{row_count}
use Rattle.cmap_codespaces.proofs.block.no_rows.Given as goal

abbrev pub invariant-loop-rows : goal.invariant-loop-rows
invariant-loop-rows l = record {
  cleared : l.rows.items ≡ replicate (vec_len l.rows) 0;
  within : vec_len l.rows ≤ row_count;
}

abbrev pub decreases-loop-rows : goal.decreases-loop-rows
decreases-loop-rows l = row_count - vec_len l.rows
