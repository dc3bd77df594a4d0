use Rattle.std.proofs.Common.{◌≡◌, ◌<◌, ◌^◌, All, take}
use Rattle.cmap_binary_writer.proofs.decided.table_of.Given as goal

abbrev pub invariant-loop-entry : goal.invariant-loop-entry
invariant-loop-entry l = record {
  same : l.copy.items ≡ take l.entry-index l.list;
  small : All (λ r. r.range.end < 2 ^ 32) (take l.entry-index l.list);
}
