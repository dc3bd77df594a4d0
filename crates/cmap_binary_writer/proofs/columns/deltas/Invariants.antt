use Rattle.std.proofs.Common.{◌≡◌, ◌++◌, drop, map}
use Rattle.cmap_binary_writer.specs.Held.{AreInOrder, deltas_of}
use Rattle.cmap_binary_writer.proofs.columns.deltas.Given as goal

abbrev pub invariant-loop-entry : goal.invariant-loop-entry
invariant-loop-entry g l = record {
  order : AreInOrder l.base (map g.T.HasRange.span (drop l.entry-index l.entries));
  deltas : l.deltas.items ++ deltas_of l.base (map g.T.HasRange.span (drop l.entry-index l.entries)) ≡ deltas_of 0 (map g.T.HasRange.span l.entries);
}
