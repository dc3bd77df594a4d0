use Rattle.std.proofs.Common.{◌≡◌, ◌-◌, ◌≤◌}
use Rattle.std.specs.Prelude.{All}
use Rattle.cmap_runs.specs.Parts.{all_parts, left_of}
use Rattle.cmap_runs.proofs.runs.indices.ascending_parts.Given as goal

abbrev pub invariant-loop-next : goal.invariant-loop-next
invariant-loop-next g l = record {
  within : l.next ≤ l.count;
  each : All (λ part. (part.next ≤ part.end) × (part.end ≤ l.count)) (all_parts l.parts);
  few : left_of (all_parts l.parts) ≡ l.next;
}

abbrev pub decreases-loop-next : goal.decreases-loop-next
decreases-loop-next g l = l.count - l.next
