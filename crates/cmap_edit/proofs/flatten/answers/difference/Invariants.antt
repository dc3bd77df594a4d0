use Rattle.std.proofs.Common.{◌≡◌, ℕ, ◌-◌, ◌<◌, ◌≤◌, ◌^◌}
use Rattle.std.specs.Prelude.{IsSome}
use Rattle.cmap_runs.specs.Ranges.{last_of}
use Rattle.cmap_values.specs.CodeLengths.{length_of}
use Rattle.cmap_layers.specs.Lookups.{cid_of}
use Rattle.cmap_edit.specs.Chosen.{codes_span}
use Rattle.cmap_edit.proofs.flatten.answers.difference.Given as goal

-- both maps have the same CIDs so far
abbrev pub invariant-loop-next : goal.invariant-loop-next
invariant-loop-next l = record {
  declarations : l.stretches.declarations ≡ l.chosen;
  next : l.stretches.next ≡ l.next;
  within : l.next ≤ 2 ^ 32;
  same : (code : ℕ) → code < l.next → IsSome (last_of codes_span l.chosen code) → cid_of l.one code (length_of l.len) ≡ cid_of l.other code (length_of l.len);
}

abbrev pub decreases-loop-next : goal.decreases-loop-next
decreases-loop-next l = 2 ^ 32 - l.next
