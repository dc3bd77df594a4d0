use Rattle.std.proofs.Common.{◌≡◌, ◌++◌, drop, map}
use Rattle.cmap_binary.specs.BinaryEntries.{ranges}
use Rattle.cmap_binary_writer.specs.Held.{AreShaped, counts_of}
use Rattle.cmap_binary_writer.proofs.columns.range_counts.Given as goal

abbrev pub invariant-loop-entry : goal.invariant-loop-entry
invariant-loop-entry g l = record {
  shape : AreShaped ranges (map g.T.HasRange.span (drop l.entry-index l.entries));
  counts : l.counts.items ++ counts_of (map g.T.HasRange.span (drop l.entry-index l.entries)) ≡ counts_of (map g.T.HasRange.span l.entries);
}
