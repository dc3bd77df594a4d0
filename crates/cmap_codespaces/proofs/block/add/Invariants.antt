use Rattle.std.proofs.Common.{◌≡◌, ℕ, ◌<◌, ◌⊎◌, length, get_or}
use Rattle.std.specs.Prelude.{◌↔◌}
use Rattle.std.specs.Int.{bit_at}
use Rattle.cmap_values.specs.DeclarationsSeen.{codespace_seen}
use Rattle.cmap_codespaces.specs.SpaceBits.{row_count}
use Rattle.cmap_codespaces.proofs.RowBits.{IsTouched}
use Rattle.cmap_codespaces.proofs.block.add.Given as goal

abbrev pub invariant-loop-place : goal.invariant-loop-place
invariant-loop-place l = record {
  size : length l.rows ≡ row_count;
  bits : (row i : ℕ) → row < row_count → (bit_at (get_or l.rows row 0) i ≡ 1) ↔ ((bit_at (get_or l.fn.rows row 0) i ≡ 1) ⊎ ((i ≡ l.bit) × IsTouched (codespace_seen l.space) l.place row));
}
