use Rattle.std.proofs.Common.{◌≡◌}
use Rattle.std.specs.List.{sum_by}
use Rattle.cmap_load.specs.Graphs.{IsBegun, IsGraph}
use Rattle.cmap_load.proofs.graph.Graph.advance.Given as goal

abbrev pub invariant-on : goal.invariant-on
invariant-on l = record {
  found : l.self.found ≡ l.initial.self.found;
  nodes : l.self.nodes ≡ l.initial.self.nodes;
  budget : l.self.budget ≡ l.initial.self.budget;
  graph : IsGraph l.self;
  begun : IsBegun l.self;
}

abbrev pub decreases-on : goal.decreases-on
decreases-on l = sum_by (λ height. height) l.self.heights.items
