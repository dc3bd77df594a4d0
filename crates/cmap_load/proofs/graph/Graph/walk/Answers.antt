use Rattle.std.proofs.Common.{◌<◌, ◌-◌, ◌∷◌, ◌∙◌, ap, arith, inl, refl, sum}
use Rattle.std.specs.Prelude.{Some}
use Rattle.cmap_load.proofs.BudgetLeft.{IsLeft-less, Leaves-none}
use Rattle.cmap_load.proofs.GraphHeights.{lowers}
use Rattle.cmap_load.proofs.GraphWalks.{awaiting, costs, first_of, leads_down, leads_long, too_long, too_many, within}
use Rattle.cmap_load.proofs.graph.Graph.walk.Goals as goal

pub down-init : goal.down-init
down-init c =
    let begun = c.requires.begun in
    record {
      some = omega arith;
      fits = omega arith;
      at = begun.some;
      high = inl begun.high;
      left = (0, Leaves-none c.args.self.now.budget);
      leads = (c.new-names.ensures, refl, refl);
    }

pub returns-in-Whole : goal.returns-in-Whole
returns-in-Whole c =
    let graph = c.args.self.now in let so_far = c.down.invariant in
    let look = c.in-Whole.ensures in let few = so_far.fits in (
      so_far.at,
      omega (arith, look.0, few),
      lowers graph c.requires.graph c.down.at c.down.most c.in-Whole.height c.down.left c.in-Whole.after so_far.at few look.0 so_far.left so_far.high look.1,
      costs graph c.down.most c.in-Whole.height c.down.at c.down.left c.in-Whole.after few look.0 so_far.left look.1 c.spent.result c.spent.ensures,
      within graph c.down.most c.in-Whole.height c.down.at c.down.left c.in-Whole.after few look.0 so_far.left look.1,
    )

pub returns-in-OverBudget : goal.returns-in-OverBudget
returns-in-OverBudget c =
    let so_far = c.down.invariant in
    too_many c.args.self.now c.down.most c.down.names.items c.down.left c.down.at so_far.some so_far.fits so_far.leads c.in-OverBudget.ensures

pub push-requires : goal.push-requires
push-requires c =
    let so_far = c.down.invariant in let some = so_far.some in let long = leads_long c.args.self.now (16 - c.down.most) c.down.names.items c.down.left c.down.at so_far.leads in
    omega (arith, some, long)

pub returns-then-most-eq1 : goal.returns-then-most-eq1
returns-then-most-eq1 c =
    let so_far = c.down.invariant in
    too_long c.args.self.now c.down.most c.down.names.items c.down.left c.down.at so_far.some so_far.fits so_far.leads c.in-Stuck.stuck c.in-Stuck.ensures c.push.new.self.items c.push.ensures.items c.if-most-eq1.true

pub returns-in_default : goal.returns-in_default
returns-in_default c =
    let graph = c.args.self.now in let so_far = c.down.invariant in
    let has = c.in-Stuck.ensures in let stuck = c.in-Stuck.stuck in
    let some = so_far.some in let other = c.if-most-eq1.false in
    let more : 1 < c.down.most = omega (arith, some, other) in
    let left = IsLeft-less graph.budget c.down.left stuck.left (sum (has.uses.node.length ∷ has.lengths)) so_far.left has.leaves in (
      so_far.at,
      first_of graph (c.down.most - 1) c.down.at c.down.left stuck has,
      awaiting graph c.down.most c.down.names.items c.down.left c.down.at some so_far.fits so_far.leads stuck has c.push.new.self.items c.push.ensures.items _ refl refl refl more (has.found ∙ ap Some c.in_default.is) left,
    )

pub down-preserved : goal.down-preserved
down-preserved c =
    let graph = c.args.self.now in let so_far = c.down.invariant in
    let has = c.in-Stuck.ensures in let stuck = c.in-Stuck.stuck in
    let some = so_far.some in let other = c.if-most-eq1.false in let few = so_far.fits in
    let more : 1 < c.down.most = omega (arith, some, other) in
    let found = has.found ∙ ap Some c.in-Some.is in
    record {
      some = omega (arith, more);
      fits = omega (arith, few);
      at = c.requires.graph.known stuck.name c.in-Some.i found;
      high = rw c.in-Some.is at has.has_none;
      left = IsLeft-less graph.budget c.down.left stuck.left (sum (has.uses.node.length ∷ has.lengths)) so_far.left has.leaves;
      leads = leads_down graph c.down.most c.down.names.items c.down.left c.down.at some few so_far.leads stuck has c.push.new.self.items c.push.ensures.items c.in-Some.i more found;
    }
