use Rattle.std.proofs.Common.{◌≡◌, ℕ, ◌*◌, ◌<◌, length, get_or}
use Rattle.std.specs.Global.{Vec}
use Rattle.cmap_codespaces.specs.SpaceBits.{HasGroup}
use Rattle.cmap_codespaces.proofs.group.groups_of.Given as goal

abbrev pub invariant-loop-index : goal.invariant-loop-index
invariant-loop-index l = record {
  number : length l.groups.items ≡ l.index;
  each : (g : ℕ) (d : Vec ℕ) → g < length l.groups.items → HasGroup l.blocks (64 * g) 64 (get_or l.groups.items g d).items;
}
