use Rattle.std.proofs.Common.{◌+◌, ◌≤◌, take}
use Rattle.std.specs.Prelude.{◌↔◌, IsTrue}
use Rattle.cmap_encode.specs.ChoicesSeen.{choices_of}
use Rattle.cmap_encode.specs.Pieces.{IsEncodable}
use Rattle.cmap_encode.specs.Prefixes.{AreNodes, IsLongestBelow}
use Rattle.cmap_encode.proofs.prefixes.longest_prefix.Given as goal

abbrev pub invariant-loop-count : goal.invariant-loop-count
invariant-loop-count l = record {
  below : l.longest ≤ l.count;
  nodes : AreNodes l.choices l.text l.count l.nodes.items;
  begins : IsTrue l.may_begin ↔ IsEncodable (choices_of l.choices) (take l.count l.text);
  longest : IsLongestBelow (choices_of l.choices) l.text (l.count + 1) l.longest;
}
