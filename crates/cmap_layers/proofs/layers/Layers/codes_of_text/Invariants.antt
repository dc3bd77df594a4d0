use Rattle.std.proofs.Common.{◌≡◌, ◌-◌, ◌^◌, ◌≤◌, Some}
use Rattle.std.specs.Str.{chars}
use Rattle.cmap_layers.specs.CodeRanges.{AreRangesOf}
use Rattle.cmap_layers.specs.Lookups.{bf_of}
use Rattle.cmap_layers.proofs.layers.Layers.codes_of_text.Given as goal

abbrev pub invariant-loop-next : goal.invariant-loop-next
invariant-loop-next l = record {
  within : l.next ≤ 2 ^ 32;
  codes : AreRangesOf (λ code. bf_of l.self code ≡ Some (chars l.text)) l.next l.ranges.items;
}

abbrev pub decreases-loop-next : goal.decreases-loop-next
decreases-loop-next l = 2 ^ 32 - l.next
