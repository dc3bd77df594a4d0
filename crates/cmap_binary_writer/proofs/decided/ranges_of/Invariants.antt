use Rattle.std.proofs.Common.{◌≡◌, Some, ◌≤◌, All, map, take}
use Rattle.std.specs.List.{slice_get, sum_by}
use Rattle.cmap_runs.specs.Ranges.{Run, runs_of}
use Rattle.cmap_values.specs.DeclarationsSeen.{cid_range_span, entries_seen}
use Rattle.cmap_layers.specs.Lookups.{cid_at, cid_span}
use Rattle.cmap_binary_writer.specs.Arranged.{AreWhole, EndBefore}
use Rattle.cmap_binary_writer.specs.Pieces.{AllSayAs, CanBeSplit}
use Rattle.cmap_binary_writer.specs.Weights.{cids_weight, run_span, span_weight}
use Rattle.cmap_binary_writer.proofs.RunParts.{HaveRuns}
use Rattle.cmap_binary_writer.proofs.decided.ranges_of.Given as goal

abbrev pub invariant-loop-i : goal.invariant-loop-i
invariant-loop-i l = record {
  right : AllSayAs cid_span cid_at (entries_seen l.table) (entries_seen l.ranges.items);
  small : All CanBeSplit (entries_seen l.ranges.items);
  parted : AreWhole (entries_seen l.ranges.items);
  before : (run : Run) → slice_get (runs_of (map cid_range_span l.table)) l.i ≡ Some run → EndBefore run.low (entries_seen l.ranges.items);
  few : cids_weight l.ranges.items ≤ sum_by (λ run. span_weight (run_span run)) (take l.i (runs_of (map cid_range_span l.table)));
  whole : HaveRuns cid_span (runs_of (map cid_range_span l.table)) (entries_seen l.ranges.items) l.i;
}
