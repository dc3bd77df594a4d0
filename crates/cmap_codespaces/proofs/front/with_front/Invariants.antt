use Rattle.std.proofs.Common.{◌≡◌, ℕ, ◌<◌}
use Rattle.std.specs.Prelude.{slice_index}
use Rattle.std.specs.Int.{bit_at}
use Rattle.cmap_codespaces.specs.SpaceBits.{IsSet, row_of_value}
use Rattle.cmap_codespaces.proofs.front.with_front.Given as goal

abbrev pub invariant-loop-place : goal.invariant-loop-place
invariant-loop-place l = record {
  set : (i : ℕ) → bit_at l.found i ≡ 1 → (k : ℕ) → k < l.place → IsSet l.rows i (row_of_value k (slice_index l.front k));
  all : (i : ℕ) → i < 64 → ((k : ℕ) → k < l.place → IsSet l.rows i (row_of_value k (slice_index l.front k))) → bit_at l.found i ≡ 1;
}
