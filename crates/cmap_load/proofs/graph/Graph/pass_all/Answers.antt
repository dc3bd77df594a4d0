use Rattle.std.proofs.Common.{◌≤◌, arith, refl, subst}
use Rattle.std.proofs.lemmas.Option.{slice_get_read}
use Rattle.cmap_load.specs.Graphs.{ArePassed, IsStuckAt}
use Rattle.cmap_load.proofs.GraphUses.{all_passed, count_within, first_left, rest_of, stuck_after}
use Rattle.cmap_load.proofs.graph.Graph.pass_all.Goals as goal

pub pass-requires-clause-left : goal.pass-requires-clause-left
pass-requires-clause-left c =
    let graph = c.args.self.now in let node = c.index.result.now in
    let there = slice_get_read graph.nodes.items _ c.args.at node refl c.requires.at c.index.ensures in
    first_left graph c.args.room _ c.args.left c.first_uses-firsts.new.left c.first_uses-firsts.result (c.first_uses-firsts.ensures node there) c.requires.left

pub overflow_add-before : goal.overflow_add-before
overflow_add-before c =
    let graph = c.args.self.now in let node = c.index.result.now in let firsts = c.first_uses-firsts.result in
    let there = slice_get_read graph.nodes.items _ c.args.at node refl c.requires.at c.index.ensures in
    let are = c.first_uses-firsts.ensures node there in
    let rest = rest_of graph c.args.at firsts.count node node c.deref.result.now there there c.deref.ensures.value in
    let stuck = subst (λ l. IsStuckAt graph c.args.room l c.first_uses-firsts.new.left c.in-Stuck.stuck) rest c.in-Stuck.ensures in
    let within = count_within graph c.args.room _ c.args.left c.first_uses-firsts.new.left firsts are c.in-Stuck.stuck stuck in
    omega (arith, within, node.uses.ok.0, node.uses.ok.1, node.uses.small)

pub returns-in-All : goal.returns-in-All
returns-in-All c = λ node there.
    let graph = c.args.self.now in let firsts = c.first_uses-firsts.result in
    let here = slice_get_read graph.nodes.items _ c.args.at c.index.result.now refl c.requires.at c.index.ensures in
    let are = c.first_uses-firsts.ensures node there in
    let rest = rest_of graph c.args.at firsts.count c.index.result.now node c.deref.result.now here there c.deref.ensures.value in
    let passed = c.in-All.ensures in let high = c.max.ensures in
    let few : c.max.result ≤ c.args.room = omega (arith, high, passed.0, are.high) in (
      few,
      all_passed graph c.args.room _ c.args.left c.first_uses-firsts.new.left firsts are c.in-All.highest c.max.result c.in-All.after (omega (arith, high)) (omega (arith, high))
          (subst (λ l. ArePassed graph c.in-All.highest l c.first_uses-firsts.new.left c.in-All.after) rest passed.1),
    )

pub returns-in-Stuck : goal.returns-in-Stuck
returns-in-Stuck c = λ node there.
    let graph = c.args.self.now in let firsts = c.first_uses-firsts.result in
    let here = slice_get_read graph.nodes.items _ c.args.at c.index.result.now refl c.requires.at c.index.ensures in
    let are = c.first_uses-firsts.ensures node there in
    let rest = rest_of graph c.args.at firsts.count c.index.result.now node c.deref.result.now here there c.deref.ensures.value in
    let stuck = subst (λ l. IsStuckAt graph c.args.room l c.first_uses-firsts.new.left c.in-Stuck.stuck) rest c.in-Stuck.ensures in
    let high = c.max-in-Stuck.ensures in
    stuck_after graph c.args.room _ c.args.left c.first_uses-firsts.new.left firsts are c.in-Stuck.stuck stuck c.max-in-Stuck.result c.spent.result (omega (arith, high)) (omega (arith, high)) (omega (arith, high, stuck.high, are.high)) c.spent.ensures
