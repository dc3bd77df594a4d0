use Rattle.std.proofs.Common.{ℕ, ◌+◌, ◌-◌, ◌≤◌}
use Rattle.cmap_values.specs.CodeLengths.{length_of}
use Rattle.cmap_values.specs.DeclarationsSeen.{entries_seen}
use Rattle.cmap_unicode.specs.Given.{given}
use Rattle.cmap_edit.specs.Parts.{IsAdded}
use Rattle.cmap_edit.proofs.flatten.cids.Declared.add_codes.Given as goal

abbrev pub invariant-loop-next : goal.invariant-loop-next
invariant-loop-next l = record {
  from : l.range.start ≤ l.next;
  to : l.next ≤ l.end + 1;
  added : IsAdded (entries_seen l.fn.self.cids.items) (entries_seen l.fn.self.notdefs.items) l.range.start l.next (λ (code : ℕ). given l.layers code (length_of l.len))
      (entries_seen l.self.cids.items) (entries_seen l.self.notdefs.items);
}

abbrev pub decreases-loop-next : goal.decreases-loop-next
decreases-loop-next l = l.end + 1 - l.next
