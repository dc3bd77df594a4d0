use Rattle.std.proofs.Common.{◌-◌, ◌<◌, ◌≤◌, length}
use Rattle.cmap_load.specs.Graphs.{HasNoRoom, Leads}
use Rattle.cmap_load.specs.Loading.{IsLeft}
use Rattle.cmap_load.proofs.graph.Graph.walk.Given as goal

abbrev pub invariant-down : goal.invariant-down
invariant-down l = record {
  some : 0 < l.most;
  fits : l.most ≤ 16;
  at : l.at < length l.self.nodes.items;
  high : HasNoRoom l.self l.most l.left l.at;
  left : IsLeft l.self.budget l.left;
  leads : Leads l.self (16 - l.most) l.names.items l.left l.at;
}

abbrev pub decreases-down : goal.decreases-down
decreases-down l = l.most
