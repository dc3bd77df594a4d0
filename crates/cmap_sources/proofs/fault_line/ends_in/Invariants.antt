use Rattle.std.proofs.Common.{◌≡◌, ◌+◌, ◌≤◌, drop}
use Rattle.cmap_sources.specs.LineEnds.{line_ends}
use Rattle.cmap_sources.proofs.fault_line.ends_in.Given as goal

abbrev pub invariant-loop-i : goal.invariant-loop-i
invariant-loop-i l = record {
  few : l.ends ≤ l.i;
  rest : l.ends + line_ends l.after_return (drop l.i l.bytes) ≡ line_ends l.is_after_return l.bytes;
}
