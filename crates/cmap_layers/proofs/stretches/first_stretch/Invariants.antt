use Rattle.std.proofs.Common.{◌≡◌, ℕ, ◌+◌, ◌<◌, ◌≤◌, ◌^◌, drop, take}
use Rattle.std.specs.Prelude.{All}
use Rattle.cmap_values.specs.CodeLengths.{length_of}
use Rattle.cmap_layers.specs.CodeStretches.{HoldsBelow}
use Rattle.cmap_layers.specs.FirstDecided.{IsUndecided, first_of}
use Rattle.cmap_layers.specs.LayersSeen.{layers_seen}
use Rattle.cmap_layers.proofs.stretches.first_stretch.Given as goal

-- no layer so far decides for any of the codes
abbrev pub invariant-loop-layer : goal.invariant-loop-layer
invariant-loop-layer g l = let decision = g.D.Deciding.decision in let len = length_of l.len in record {
  within : l.first ≤ l.last;
  undecided : All (IsUndecided decision len l.first) (layers_seen (take l.layer-index l.layers));
  longest : l.last + 1 < 2 ^ 32 → HoldsBelow (IsUndecided decision len l.first) (decision.Ends len l.first l.last) (layers_seen l.layers);
  passed : (code : ℕ) → l.first ≤ code → code ≤ l.last
      → first_of (λ layer. decision.decided layer code len) (layers_seen l.layers) ≡ first_of (λ layer. decision.decided layer code len) (layers_seen (drop l.layer-index l.layers));
}
