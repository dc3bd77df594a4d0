use Rattle.std.proofs.Common.{◌≡◌, ℕ, ◌*◌, ◌<◌, length, get_or}
use Rattle.std.specs.Global.{Vec}
use Rattle.cmap_codespaces.specs.SpaceBits.{HaveBits}
use Rattle.cmap_codespaces.proofs.spaces.blocks_of.Given as goal

abbrev pub invariant-loop-index : goal.invariant-loop-index
invariant-loop-index l = record {
  number : length l.blocks.items ≡ l.index;
  each : (b : ℕ) (d : Vec ℕ) → b < length l.blocks.items → HaveBits l.spaces (64 * b) 64 (get_or l.blocks.items b d).items;
}
