use Rattle.std.proofs.Common.{◌-◌, arith, refl}
use Rattle.std.proofs.lemmas.Option.{slice_get_read}
use Rattle.cmap_load.proofs.BudgetLeft.{IsLeft-less}
use Rattle.cmap_load.proofs.GraphUses.{has_stuck, whole_at}
use Rattle.cmap_load.proofs.graph.Graph.look.Goals as goal

pub returns-then-not-spend : goal.returns-then-not-spend
returns-then-not-spend c = record {
  node = c.index.result.now;
  there = slice_get_read c.args.self.now.nodes.items _ c.args.at c.index.result.now refl c.requires.at c.index.ensures;
  over = c.if-not-spend.ensures.over.0;
}

pub pass_all-requires-clause-left : goal.pass_all-requires-clause-left
pass_all-requires-clause-left c = IsLeft-less c.args.self.now.budget c.args.left c.spend.new.left c.index.result.now.length c.requires.left c.if-not-spend.ensures.spent

pub overflow_add-result : goal.overflow_add-result
overflow_add-result c =
    let there = slice_get_read c.args.self.now.nodes.items _ c.args.at c.index.result.now refl c.requires.at c.index.ensures in
    let passed = rw c.in-All.is at c.pass_all.ensures c.index.result.now there in
    let most = c.requires.most in
    omega (arith, passed.0, most.1)

pub returns-in-All : goal.returns-in-All
returns-in-All c =
    let graph = c.args.self.now in let node = c.index.result.now in
    let there = slice_get_read graph.nodes.items _ c.args.at node refl c.requires.at c.index.ensures in
    let passed = rw c.in-All.is at c.pass_all.ensures node there in
    let most = c.requires.most in
    (omega (arith, passed.0, most.0), whole_at graph c.args.at node there c.args.left c.spend.new.left c.if-not-spend.ensures.spent c.in-All.highest c.in-All.after passed.1)

pub returns-in-Stuck : goal.returns-in-Stuck
returns-in-Stuck c =
    let graph = c.args.self.now in let node = c.index.result.now in
    let there = slice_get_read graph.nodes.items _ c.args.at node refl c.requires.at c.index.ensures in
    let left = IsLeft-less graph.budget c.args.left c.spend.new.left node.length c.requires.left c.if-not-spend.ensures.spent in
    let passed = rw c.in-Stuck.is at c.pass_all.ensures node there in
    has_stuck graph c.args.at node there c.args.left c.spend.new.left c.if-not-spend.ensures.spent (c.args.most - 1) c.in-Stuck.stuck left passed
