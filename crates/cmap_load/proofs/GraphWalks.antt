-- The way from the top file of a graph.
use Rattle.std.proofs.Common.{◌≡◌, sym, ap, subst, ◌∙◌, arith, ℕ, zero, suc, ◌+◌, ◌-◌, ◌<◌, ◌≤◌, List, [], ◌∷◌, ◌++◌, length, length-append, sum, Option, Some, None}
use Rattle.std.specs.Prelude.{slice_get}
use Rattle.cmap_load.specs.BytesSpent.{Leaves}
use Rattle.cmap_load.specs.Loading.{IsCost, IsLeft}
use Rattle.cmap_load.specs.Graphs.{Costs, HasFirst, HasStuck, HasTooMany, IsAwaiting, IsOverBudget, IsSpent, IsTooLong, IsWhole, IsWithin, Leads, LeadsToUse}
use Rattle.cmap_load.specs.declared.graph.Graph.{Graph}
use Rattle.cmap_load.specs.declared.graph.Node.{Node}
use Rattle.cmap_load.specs.declared.graph.step.Stuck.{Stuck}
use Rattle.cmap_load.specs.declared.graph.step.Wanted.{Wanted}
use Rattle.cmap_load.proofs.BudgetLeft.{IsCost-left, IsOver-more, Leaves-more, not_over}
use Rattle.cmap_load.proofs.GraphFiles.{whole_more}

module _ (graph : Graph) where
  module _ (most : ℕ) (names : List ℕ) (left : Option ℕ) (at : ℕ) (some : 0 < most) (few : most ≤ 16) (leads : Leads graph (16 - most) names left at) where
    pub too_many : HasTooMany graph at left → IsOverBudget graph names
    too_many many = record { n = 16 - most; less = omega (arith, some); left = left; i = at; leads = leads; many = many }

    module _ (stuck : Stuck) (has : HasStuck graph (most - 1) at left stuck) (pushed : List ℕ) (is : pushed ≡ names ++ stuck.name ∷ []) where
      abbrev ToUse : ℕ → ℕ → Type 0
      ToUse n room = LeadsToUse graph (Leads graph n) room pushed stuck.left stuck.name

      to_use : ToUse (16 - most) (15 - (16 - most))
      to_use =
          let e : most - 1 ≡ 15 - (16 - most) = omega (arith, some, few) in
          let here : ToUse (16 - most) (most - 1) = record { others = names; old = left; at = at; lengths = has.lengths; leading = leads; uses = has.uses; leaves = has.leaves; names_are = is } in
          subst (ToUse (16 - most)) e here

      pub leads_down : (i : ℕ) → 1 < most → slice_get graph.found.items stuck.name ≡ Some (Some i) → Leads graph (16 - (most - 1)) pushed stuck.left i
      leads_down i more there =
          let e : suc (16 - most) ≡ 16 - (most - 1) = omega (arith, more, few) in
          subst (λ n. Leads graph n pushed stuck.left i) e (stuck.name, to_use, there)

      pub too_long : most ≡ 1 → IsTooLong graph pushed
      too_long one = record { left = stuck.left; name = stuck.name; leads = subst (λ m. ToUse (16 - m) (15 - (16 - m))) one to_use }

      pub awaiting : (wanted : Wanted) → wanted.names.items ≡ pushed → wanted.name ≡ stuck.name → wanted.left ≡ stuck.left → 1 < most → slice_get graph.found.items stuck.name ≡ Some None → IsLeft graph.budget stuck.left → IsAwaiting graph wanted
      awaiting wanted are name same more none rest = record {
        n = 16 - most;
        less = omega (arith, more);
        leads = subst (λ l. LeadsToUse graph (Leads graph (16 - most)) (15 - (16 - most)) l wanted.left wanted.name) (sym are)
            (subst (λ l. LeadsToUse graph (Leads graph (16 - most)) (15 - (16 - most)) pushed l wanted.name) (sym same)
            (subst (λ n. LeadsToUse graph (Leads graph (16 - most)) (15 - (16 - most)) pushed stuck.left n) (sym name) to_use));
        left = subst (IsLeft graph.budget) (sym same) rest;
        new = ap (slice_get graph.found.items) name ∙ none;
      }

  -- so many names lead to a file
  pub leads_long : (n : ℕ) (names : List ℕ) (left : Option ℕ) (i : ℕ) → Leads graph n names left i → length names ≡ n
  leads_long zero names left i leads = ap length leads.0
  leads_long (suc n) names left i (name, leads, _) =
      let before = leads_long n leads.others leads.old leads.at leads.leading in
      ap length leads.names_are ∙ length-append leads.others (name ∷ []) ∙ omega (arith, before)

  -- the first uses of the file that has a use which isn't passed over
  pub first_of : (room at : ℕ) (left : Option ℕ) (stuck : Stuck) → HasStuck graph room at left stuck → (node : Node) → slice_get graph.nodes.items at ≡ Some node → HasFirst graph node.uses.items stuck.before
  first_of room at left stuck has node there =
      let e : Some has.uses.node ≡ Some node = sym has.uses.there ∙ there in
      let same : has.uses.node ≡ node = cc in
      subst (λ (n : Node). HasFirst graph n.uses.items stuck.before) same has.first

  -- a file that is whole
  module _ (most height at : ℕ) (left after : Option ℕ) (few : most ≤ 16) (le : height ≤ most) (rest : IsLeft graph.budget left) (spent : IsSpent graph height at left after) where
    pub costs : (cost : ℕ) → ((count : ℕ) → Leaves left count after → IsCost left count cost) → Costs graph height cost at
    costs cost is = record {
      lengths = spent.lengths;
      whole = spent.whole;
      costs = IsCost-left graph.budget left rest.0 (sum spent.lengths) cost rest.1 (is (sum spent.lengths) spent.leaves);
    }

    pub within : at ≡ 0 → IsWithin graph
    within is_top =
        let all = Leaves-more graph.budget left after rest.0 (sum spent.lengths) rest.1 spent.leaves in
        let low : height ≤ 16 = omega (arith, few, le) in
        record {
          lengths = spent.lengths;
          whole = subst (λ i. IsWhole graph 16 i spent.lengths) is_top (record { opened = whole_more graph height 16 low at spent.lengths spent.whole.opened });
          within = λ over. not_over graph.budget after (rest.0 + sum spent.lengths) all (IsOver-more graph.budget (sum spent.lengths) (rest.0 + sum spent.lengths) (omega arith) over);
        }
