use Rattle.std.proofs.Common.{◌≤◌, take}
use Rattle.cmap_load.specs.Graphs.{ArePassed}
use Rattle.cmap_load.specs.Loading.{IsLeft}
use Rattle.cmap_load.proofs.graph.Graph.pass.Given as goal

abbrev pub invariant-loop-i : goal.invariant-loop-i
invariant-loop-i l = record {
  room : l.highest ≤ l.room;
  left : IsLeft l.self.budget l.after;
  passed : ArePassed l.self l.highest (take l.i l.uses) l.left l.after;
}
