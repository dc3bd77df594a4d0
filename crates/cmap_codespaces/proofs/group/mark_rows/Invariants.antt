use Rattle.std.proofs.Common.{◌≡◌, ◌≢◌, ℕ, ◌<◌, ◌⊎◌, length, get_or}
use Rattle.std.specs.Prelude.{◌↔◌}
use Rattle.std.specs.Int.{bit_at}
use Rattle.cmap_codespaces.specs.SpaceBits.{row_count}
use Rattle.cmap_codespaces.proofs.group.mark_rows.Given as goal

abbrev pub invariant-loop-row : goal.invariant-loop-row
invariant-loop-row l = record {
  size : length l.rows ≡ row_count;
  bits : (row i : ℕ) → row < row_count → (bit_at (get_or l.rows row 0) i ≡ 1) ↔ ((bit_at (get_or l.fn.rows row 0) i ≡ 1) ⊎ ((i ≡ l.bit) × (row < l.row) × (get_or l.block row 0 ≢ 0)));
}
