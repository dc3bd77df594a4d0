use Rattle.std.proofs.Common.{◌≡◌, ◌+◌, ◌-◌, ◌<◌, length}
use Rattle.cmap_encode.specs.ChoicesSeen.{choices_of}
use Rattle.cmap_encode.specs.Ways.{AreInside, AreWays, last_of, marks_of}
use Rattle.cmap_encode.proofs.ways.all_ways.Given as goal

abbrev pub invariant-loop-left : goal.invariant-loop-left
invariant-loop-left l = record {
  count : length l.ways.items + 1 ≡ l.left;
  ways : AreWays (choices_of l.choices) l.text l.ways.items;
  inside : AreInside l.ways.items;
  marks : l.marks ≡ marks_of (last_of (l.left - 1) l.text);
  few : l.marks < l.left;
}
