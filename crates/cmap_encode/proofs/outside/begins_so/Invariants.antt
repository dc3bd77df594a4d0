use Rattle.std.proofs.Common.{ℕ, ◌<◌, ◌≤◌}
use Rattle.cmap_codespaces.specs.CodesWithin.{byte_at}
use Rattle.cmap_encode.proofs.outside.begins_so.Given as goal

abbrev pub invariant-loop-place : goal.invariant-loop-place
invariant-loop-place l = (k : ℕ) → l.after ≤ k → k < l.place → (byte_at l.space.low k ≤ byte_at l.code.number k) × (byte_at l.code.number k ≤ byte_at l.space.high k)
