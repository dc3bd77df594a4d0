use Rattle.std.proofs.Common.{◌≡◌, ◌<◌, ℕ, get_or}
use Rattle.cmap_load.proofs.salvage.path.place_of.Given as goal

abbrev pub invariant-loop-i : goal.invariant-loop-i
invariant-loop-i l = record {
  none : (k : ℕ) → k < l.i → get_or l.path k l.read ≡ l.read → ⊥;
}
