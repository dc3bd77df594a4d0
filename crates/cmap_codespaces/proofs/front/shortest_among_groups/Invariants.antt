use Rattle.std.proofs.Common.{◌≤◌}
use Rattle.cmap_codespaces.proofs.SpacesFound.{NoneBelow}
use Rattle.cmap_codespaces.proofs.front.shortest_among_groups.Given as goal

abbrev pub invariant-loop-byte_len : goal.invariant-loop-byte_len
invariant-loop-byte_len l = record {
  some : 1 ≤ l.byte_len;
  none : NoneBelow l.blocks l.text l.byte_len;
}
