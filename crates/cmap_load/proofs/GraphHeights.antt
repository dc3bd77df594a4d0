-- What becomes known of a file of a graph.
use Rattle.std.proofs.Common.{◌≡◌, ◌≢◌, refl, sym, ap, subst, ◌∙◌, arith, ℕ, ◌-◌, ◌<◌, ◌≤◌, List, length, get_or, sum, Option, Some, inl, inr}
use Rattle.std.specs.Prelude.{slice_get, slice_index}
use Rattle.std.specs.Global.{Vec}
use Rattle.std.specs.List.{sum_by}
use Rattle.std.proofs.Math.ListN.{set, length-set}
use Rattle.std.proofs.lemmas.Bool.{cases_eq, cases_lt}
use Rattle.std.proofs.lemmas.List.{get_or-set_same, get_or-set_other}
use Rattle.std.proofs.lemmas.List.Sums.{sum_by-set}
use Rattle.std.proofs.lemmas.Option.{get_or_from_slice_get, slice_get-get_or, slice_get_within}
use Rattle.cmap_load.specs.Budgets.{IsOver}
use Rattle.cmap_load.specs.Loading.{IsLeft}
use Rattle.cmap_load.specs.Graphs.{Costs, HasFirst, HasNoRoom, IsAwaiting, IsBegun, IsGraph, IsSpent, Leads}
use Rattle.cmap_load.specs.declared.graph.Graph.{Graph}
use Rattle.cmap_load.specs.declared.graph.Node.{Node}
use Rattle.cmap_load.specs.declared.graph.step.FirstUses.{FirstUses}
use Rattle.cmap_load.specs.declared.graph.step.Wanted.{Wanted}
use Rattle.cmap_load.proofs.BudgetLeft.{IsOver-cost, not_over}
use Rattle.cmap_load.proofs.GraphFiles.{Costs-grown, HasFirst-grown, Leads-grown, LeadsToUse-grown, whole_same}

-- a graph with the same names and files
module _ (graph after : Graph) (budget : after.budget ≡ graph.budget) (found : after.found ≡ graph.found) (nodes : after.nodes ≡ graph.nodes) where
  Costs-still : (height cost i : ℕ) → Costs graph height cost i → Costs after height cost i
  Costs-still = Costs-grown graph after budget (λ name i is. ap (λ v. slice_get v.items name) found ∙ is) (λ i node is. ap (λ v. slice_get v.items i) nodes ∙ is)

  HasFirst-still : (uses : List ℕ) (first : FirstUses) → HasFirst graph uses first → HasFirst after uses first
  HasFirst-still = HasFirst-grown graph after budget (λ name i is. ap (λ v. slice_get v.items name) found ∙ is) (λ i node is. ap (λ v. slice_get v.items i) nodes ∙ is)

-- a height that becomes known
module _ (graph : Graph) (is : IsGraph graph) (at height cost : ℕ) (within : at < length graph.nodes.items)
    (heights costs : Vec ℕ) (written : heights.items ≡ set graph.heights.items at height) (spent : costs.items ≡ set graph.costs.items at cost) where
  in_heights : at < length graph.heights.items
  in_heights = omega (arith, is.heights, within)

  in_costs : at < length graph.costs.items
  in_costs = omega (arith, is.costs, within)

  same_height : slice_index heights.items at ≡ height
  same_height = ap (λ l. get_or l at 0) written ∙ get_or-set_same graph.heights.items at height 0 in_heights

  same_cost : slice_index costs.items at ≡ cost
  same_cost = ap (λ l. get_or l at 0) spent ∙ get_or-set_same graph.costs.items at cost 0 in_costs

  other_height : (i : ℕ) → i ≢ at → slice_index heights.items i ≡ slice_index graph.heights.items i
  other_height i other = ap (λ l. get_or l i 0) written ∙ get_or-set_other graph.heights.items at i height 0 other

  other_cost : (i : ℕ) → i ≢ at → slice_index costs.items i ≡ slice_index graph.costs.items i
  other_cost i other = ap (λ l. get_or l i 0) spent ∙ get_or-set_other graph.costs.items at i cost 0 other

  abbrev after : Graph
  after = record graph { heights = heights; costs = costs }

  pub IsGraph-set : Costs graph height cost at → IsGraph after
  IsGraph-set whole = record {
    heights = ap length written ∙ length-set graph.heights.items at height ∙ is.heights;
    costs = ap length spent ∙ length-set graph.costs.items at cost ∙ is.costs;
    firsts = is.firsts;
    named = is.named;
    known = is.known;
    high = λ i lt le. elim (cases_eq i at) [
      | inl here ↦ subst (λ k. Costs after (slice_index heights.items k) (slice_index costs.items k) k) (sym here)
          (subst (λ h. Costs after h (slice_index costs.items at) at) (sym same_height)
          (subst (λ n. Costs after height n at) (sym same_cost) (Costs-still graph after refl refl refl height cost at whole)))
      | inr other ↦ (
          let e = other_height i other in
          subst (λ h. Costs after h (slice_index costs.items i) i) (sym e)
          (subst (λ n. Costs after (slice_index graph.heights.items i) n i) (sym (other_cost i other))
          (Costs-still graph after refl refl refl (slice_index graph.heights.items i) (slice_index graph.costs.items i) i (is.high i lt (omega (arith, e, le))))))
    ];
    begun = λ i node first there has. HasFirst-still graph after refl refl refl node.uses.items first (is.begun i node first there has);
  }

  pub IsBegun-set : IsBegun graph → at ≢ 0 → IsBegun after
  IsBegun-set begun other = record {
    some = begun.some;
    high = let e = other_height 0 (λ is. other (sym is)) in omega (arith, e, begun.high);
  }

  pub lower : height < slice_index graph.heights.items at → sum_by (λ h. h) heights.items < sum_by (λ h. h) graph.heights.items
  lower less =
      let e = sum_by-set (λ h. h) graph.heights.items at height 0 in_heights in
      let w : sum_by (λ h. h) heights.items ≡ sum_by (λ h. h) (set graph.heights.items at height) = ap (sum_by (λ h. h)) written in
      omega (arith, e, w, less)

-- if a file is whole within a chain and a budget that had no room for it, its height was unknown
pub lowers : (graph : Graph) (is : IsGraph graph) (at most height : ℕ) (left after : Option ℕ) → at < length graph.nodes.items → most ≤ 16 → height ≤ most → IsLeft graph.budget left
    → HasNoRoom graph most left at → IsSpent graph height at left after → height < slice_index graph.heights.items at
lowers graph is at most height left after within few le leaves no_room spent = elim no_room [
  | inl high ↦ omega (arith, high, le)
  | inr over ↦ elim (cases_lt (slice_index graph.heights.items at) 17) [
    | inl known ↦ (
        let low : slice_index graph.heights.items at ≤ 16 = omega (arith, known) in
        let has = is.high at within low in
        let same = whole_same graph (slice_index graph.heights.items at) height at has.lengths spent.lengths has.whole.opened spent.whole.opened in
        let passes = IsOver-cost graph.budget left (sum has.lengths) (slice_index graph.costs.items at) leaves has.costs over in
        absurd (not_over left after (sum spent.lengths) spent.leaves (subst (λ l. IsOver left (sum l)) same passes)))
    | inr unknown ↦ omega (arith, unknown, le, few)
  ]
]

-- first uses that become known
module _ (graph : Graph) (is : IsGraph graph) (at : ℕ) (first : FirstUses) (within : at < length graph.nodes.items) (firsts : Vec FirstUses) (written : firsts.items ≡ set graph.firsts.items at first) where
  in_firsts : at < length graph.firsts.items
  in_firsts = omega (arith, is.firsts, within)

  abbrev now : Graph
  now = record graph { firsts = firsts }

  known_here : (other : FirstUses) → slice_get firsts.items at ≡ Some other → first ≡ other
  known_here other there = sym (get_or-set_same graph.firsts.items at first other in_firsts) ∙ ap (λ l. get_or l at other) (sym written) ∙ get_or_from_slice_get firsts.items at other other there

  known_there : (i : ℕ) (other : FirstUses) → i ≢ at → slice_get firsts.items i ≡ Some other → slice_get graph.firsts.items i ≡ Some other
  known_there i other differs there =
      let lt = slice_get_within firsts.items i other there in
      let long = ap length written ∙ length-set graph.firsts.items at first in
      let old_lt : i < length graph.firsts.items = omega (arith, lt, long) in
      slice_get-get_or graph.firsts.items i other old_lt
      ∙ ap Some (sym (get_or-set_other graph.firsts.items at i first other differs) ∙ ap (λ l. get_or l i other) (sym written) ∙ get_or_from_slice_get firsts.items i other other there)

  pub IsGraph-first : ((node : Node) → slice_get graph.nodes.items at ≡ Some node → HasFirst graph node.uses.items first) → IsGraph now
  IsGraph-first begins = record {
    heights = is.heights;
    costs = is.costs;
    firsts = ap length written ∙ length-set graph.firsts.items at first ∙ is.firsts;
    named = is.named;
    known = is.known;
    high = λ i lt le. Costs-still graph now refl refl refl (slice_index graph.heights.items i) (slice_index graph.costs.items i) i (is.high i lt le);
    begun = λ i node other there has. elim (cases_eq i at) [
      | inl here ↦ (
          let at_here : slice_get graph.nodes.items at ≡ Some node = ap (slice_get graph.nodes.items) (sym here) ∙ there in
          let same = known_here other (ap (slice_get firsts.items) (sym here) ∙ has) in
          HasFirst-still graph now refl refl refl node.uses.items other (subst (HasFirst graph node.uses.items) same (begins node at_here)))
      | inr differs ↦ HasFirst-still graph now refl refl refl node.uses.items other (is.begun i node other there (known_there i other differs has))
    ];
  }

  pub IsBegun-first : IsBegun graph → IsBegun now
  IsBegun-first begun = record { some = begun.some; high = begun.high }

  pub IsAwaiting-first : (wanted : Wanted) → IsAwaiting graph wanted → IsAwaiting now wanted
  IsAwaiting-first wanted is_wanted = record {
    n = is_wanted.n;
    less = is_wanted.less;
    leads = LeadsToUse-grown graph now refl (λ name i is. is) (λ i node is. is) (Leads graph is_wanted.n) (Leads now is_wanted.n) (Leads-grown graph now refl (λ name i is. is) (λ i node is. is) is_wanted.n) (15 - is_wanted.n) wanted.names.items wanted.left wanted.name is_wanted.leads;
    left = is_wanted.left;
    new = is_wanted.new;
  }
