use Rattle.std.proofs.Common.{refl}
use Rattle.std.specs.Vec.{with_item}
use Rattle.cmap_load.proofs.GraphHeights.{IsAwaiting-first, IsBegun-set, IsGraph-first, IsGraph-set, lower}
use Rattle.cmap_load.proofs.graph.Graph.advance.Goals as goal

pub on-preserved : goal.on-preserved
on-preserved c =
    let graph = c.on.self in let so_far = c.on.invariant in
    let step = rw c.in-Whole.is at c.walk.ensures in
    record {
      found = so_far.found;
      nodes = so_far.nodes;
      budget = so_far.budget;
      graph = IsGraph-set graph so_far.graph c.in-Whole.at c.in-Whole.height c.in-Whole.cost step.0 _ _ refl refl step.3;
      begun = IsBegun-set graph so_far.graph c.in-Whole.at c.in-Whole.height c.in-Whole.cost step.0 _ _ refl refl so_far.begun c.if-at-eq0.false;
    }

pub on-smaller : goal.on-smaller
on-smaller c =
    let so_far = c.on.invariant in
    let step = rw c.in-Whole.is at c.walk.ensures in
    lower c.on.self so_far.graph c.in-Whole.at c.in-Whole.height c.in-Whole.cost step.0 (with_item c.on.self.heights c.in-Whole.at c.in-Whole.height) (with_item c.on.self.costs c.in-Whole.at c.in-Whole.cost) refl refl step.2

pub returns-in-Wanted-clause-graph : goal.returns-in-Wanted-clause-graph
returns-in-Wanted-clause-graph c =
    let graph = c.on.self in let so_far = c.on.invariant in
    let step = rw c.in-Wanted.is at c.walk.ensures in
    IsGraph-first graph so_far.graph c.in-Wanted.at c.in-Wanted.firsts step.0 _ refl step.1

pub returns-in-Wanted-clause-next : goal.returns-in-Wanted-clause-next
returns-in-Wanted-clause-next c =
    let graph = c.on.self in let so_far = c.on.invariant in
    let step = rw c.in-Wanted.is at c.walk.ensures in
    IsAwaiting-first graph so_far.graph c.in-Wanted.at c.in-Wanted.firsts step.0 _ refl c.in-Wanted.wanted step.2
