use Rattle.std.proofs.Common.{◌≡◌, ◌<◌, ◌^◌, All, map, take}
use Rattle.cmap_values.specs.DeclarationsSeen.{bf_entry_seen}
use Rattle.cmap_binary_writer.proofs.text_parts.text_table.Given as goal

abbrev pub invariant-loop-entry : goal.invariant-loop-entry
invariant-loop-entry l = record {
  same : map bf_entry_seen l.copy.items ≡ map bf_entry_seen (take l.entry-index l.list);
  small : All (λ r. r.range.end < 2 ^ 32) l.copy.items;
}
