use Rattle.std.proofs.Common.{◌≡◌, ℕ, ◌<◌, ◌≤◌, ◌⊎◌, length, get_or}
use Rattle.std.specs.Prelude.{◌↔◌}
use Rattle.std.specs.Int.{bit_at}
use Rattle.cmap_codespaces.specs.SpaceBits.{front_row_count}
use Rattle.cmap_codespaces.proofs.FrontRows.{IsMarked}
use Rattle.cmap_codespaces.proofs.lengths.add_length.Given as goal

abbrev pub invariant-loop-byte : goal.invariant-loop-byte
invariant-loop-byte l = record {
  size : length l.rows ≡ front_row_count;
  from : l.initial.byte ≤ l.byte;
  upto : (l.byte ≤ l.byte-end) ⊎ (l.byte ≡ l.initial.byte);
  bits : (row i : ℕ) → row < front_row_count → (bit_at (get_or l.rows row 0) i ≡ 1) ↔ ((bit_at (get_or l.fn.rows row 0) i ≡ 1) ⊎ ((i ≡ l.len) × IsMarked l.initial.byte l.byte-end l.second.low l.second.high l.byte row));
}
