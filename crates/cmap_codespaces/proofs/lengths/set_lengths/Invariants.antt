use Rattle.std.proofs.Common.{◌≡◌, ℕ, ◌+◌, ◌<◌, ◌≤◌, ◌⊎◌, length, get_or}
use Rattle.std.specs.Prelude.{◌↔◌}
use Rattle.std.specs.Int.{bit_at}
use Rattle.cmap_codespaces.proofs.lengths.set_lengths.Given as goal

abbrev pub invariant-loop-row : goal.invariant-loop-row
invariant-loop-row l = record {
  size : length l.rows ≡ length l.fn.rows;
  from : l.low ≤ l.row;
  upto : (l.row ≤ l.high + 1) ⊎ (l.row ≡ l.low);
  bits : (row i : ℕ) → row < length l.rows → (bit_at (get_or l.rows row 0) i ≡ 1) ↔ ((bit_at (get_or l.fn.rows row 0) i ≡ 1) ⊎ ((i ≡ l.len) × (l.low ≤ row) × (row < l.row)));
}
