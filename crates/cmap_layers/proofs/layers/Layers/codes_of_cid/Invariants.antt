use Rattle.std.proofs.Common.{◌-◌, ◌^◌, ◌≤◌}
use Rattle.cmap_values.specs.CodeLengths.{length_of}
use Rattle.cmap_layers.specs.CodeStretches.{AreCodesBelow}
use Rattle.cmap_layers.proofs.layers.Layers.codes_of_cid.Given as goal

abbrev pub invariant-loop-next : goal.invariant-loop-next
invariant-loop-next l = record {
  within : l.next ≤ 2 ^ 32;
  codes : AreCodesBelow l.self (length_of l.len) l.cid l.next l.ranges.items;
}

abbrev pub decreases-loop-next : goal.decreases-loop-next
decreases-loop-next l = 2 ^ 32 - l.next
