use Rattle.std.proofs.Common.{◌≡◌, ◌≤◌, All, map, take}
use Rattle.std.specs.List.{sum_by}
use Rattle.cmap_runs.specs.Ranges.{runs_of}
use Rattle.cmap_values.specs.DeclarationsSeen.{bf_entry_seen, bf_range_span}
use Rattle.cmap_layers.specs.Lookups.{bf_at, bf_span}
use Rattle.cmap_binary_writer.specs.Pieces.{AllSayAs}
use Rattle.cmap_binary_writer.specs.TextParts.{IsDecidedText, units_at}
use Rattle.cmap_binary_writer.specs.Weights.{run_span, span_weight, texts_weight}
use Rattle.cmap_binary_writer.proofs.RunParts.{HaveRuns}
use Rattle.cmap_binary_writer.proofs.text_parts.text_ranges_of.Given as goal

abbrev pub invariant-loop-i : goal.invariant-loop-i
invariant-loop-i l = record {
  right : AllSayAs bf_span bf_at (map bf_entry_seen l.table) (map bf_entry_seen l.ranges.items);
  small : All IsDecidedText (map bf_entry_seen l.ranges.items);
  units : AllSayAs bf_span units_at (map bf_entry_seen l.table) (map bf_entry_seen l.ranges.items);
  runs : map bf_range_span l.ranges.items ≡ map run_span (take l.i (runs_of (map bf_range_span l.table)));
  few : texts_weight l.ranges.items ≤ sum_by (λ run. span_weight (run_span run)) (take l.i (runs_of (map bf_range_span l.table)));
  whole : HaveRuns bf_span (runs_of (map bf_range_span l.table)) (map bf_entry_seen l.ranges.items) l.i;
}
