use Rattle.std.proofs.Common.{◌≡◌, ℕ, List, Some, take}
use Rattle.cmap_encode.specs.RunsSeen.{AreRunsByPrefix, number_of, runs_of}
use Rattle.cmap_encode.proofs.runs_by_prefix.RunsByPrefix.number.Given as goal

abbrev pub invariant-loop-character : goal.invariant-loop-character
invariant-loop-character l = record {
  are : AreRunsByPrefix l.self;
  number : number_of l.self (take l.character-index l.prefix) ≡ Some l.node;
  runs : (other : List ℕ) → runs_of l.self other ≡ runs_of l.initial.self other;
}
