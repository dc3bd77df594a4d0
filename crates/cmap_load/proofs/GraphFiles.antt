-- Files of a graph that are whole.
use Rattle.std.proofs.Common.{◌≡◌, sym, ap, ◌∙◌, subst, arith, ℕ, zero, suc, ◌-◌, ◌≤◌, List, [], ◌∷◌, ◌++◌, append_assoc, Option, Some}
use Rattle.std.specs.Prelude.{slice_get}
use Rattle.cmap_load.specs.Graphs.{Costs, EachWhole, HasFirst, IsFileOf, Leads, LeadsToUse, Uses, Whole}
use Rattle.cmap_load.specs.declared.graph.Graph.{Graph}
use Rattle.cmap_load.specs.declared.graph.Node.{Node}
use Rattle.cmap_load.specs.declared.graph.step.FirstUses.{FirstUses}

module _ (graph : Graph) where
  pub each_as : (R S : ℕ → List ℕ → Type 0) → ((i : ℕ) (lengths : List ℕ) → R i lengths → S i lengths) → (names lengths : List ℕ) → EachWhole graph R names lengths → EachWhole graph S names lengths
  each_as R S gives [] lengths h = h
  each_as R S gives (name ∷ names) lengths (i, first, rest, is, h, more, same) = (i, first, rest, is, gives i first h, each_as R S gives names rest more, same)

  -- more files may stand in a chain
  pub whole_more : (most more : ℕ) → most ≤ more → (i : ℕ) (lengths : List ℕ) → Whole graph most i lengths → Whole graph more i lengths
  whole_more zero more le i lengths h = absurd h
  whole_more (suc most) zero le i lengths h = absurd (omega (arith, le))
  whole_more (suc most) (suc more) le i lengths (node, rest, there, each, same) =
      let less : most ≤ more = omega (arith, le) in
      (node, rest, there, each_as (Whole graph most) (Whole graph more) (whole_more most more less) node.uses.items rest each, same)

  -- names after other names
  pub each_after : (R : ℕ → List ℕ → Type 0) (before rest first last : List ℕ) → EachWhole graph R before first → EachWhole graph R rest last → EachWhole graph R (before ++ rest) (first ++ last)
  each_after R [] rest first last h more = subst (λ l. EachWhole graph R rest (l ++ last)) (sym h) more
  each_after R (name ∷ before) rest first last (i, here, others, is, h, after, same) more =
      (i, here, others ++ last, is, h, each_after R before rest others last after more, ap (λ l. l ++ last) same ∙ append_assoc here others last)

  -- a file is opened in one way
  each_same : (R S : ℕ → List ℕ → Type 0) → ((i : ℕ) (first second : List ℕ) → R i first → S i second → first ≡ second) → (names first second : List ℕ) → EachWhole graph R names first → EachWhole graph S names second → first ≡ second
  each_same R S alike [] first second h k = h ∙ sym k
  each_same R S alike (name ∷ names) first second (i, a, more_a, is, h, more, same) (j, b, more_b, are, k, others, also) =
      let e : Some (Some i) ≡ Some (Some j) = sym is ∙ are in
      let at : i ≡ j = cc in
      let heads : a ≡ b = alike i a b h (subst (λ x. S x b) (sym at) k) in
      let tails : more_a ≡ more_b = each_same R S alike names more_a more_b more others in
      same ∙ ap (λ l. l ++ more_a) heads ∙ ap (λ l. b ++ l) tails ∙ sym also

  pub whole_same : (most more i : ℕ) (first second : List ℕ) → Whole graph most i first → Whole graph more i second → first ≡ second
  whole_same zero more i first second h k = absurd h
  whole_same (suc most) zero i first second h k = absurd k
  whole_same (suc most) (suc more) i first second (node, rest, there, each, same) (other, others, also, all, is) =
      let e : Some node ≡ Some other = sym there ∙ also in
      let one : node ≡ other = cc in
      let all_here : EachWhole graph (Whole graph more) node.uses.items others = subst (λ (n : Node). EachWhole graph (Whole graph more) n.uses.items others) (sym one) all in
      let tails : rest ≡ others = each_same (Whole graph most) (Whole graph more) (whole_same most more) node.uses.items rest others each all_here in
      same ∙ ap (λ l. node.length ∷ l) tails ∙ ap (λ (n : Node). n.length ∷ others) one ∙ sym is

-- files that are whole stay so in a graph with more names and files
module _ (old new : Graph) (budget : new.budget ≡ old.budget) (files : (name i : ℕ) → IsFileOf old name i → IsFileOf new name i) (nodes : (i : ℕ) (node : Node) → slice_get old.nodes.items i ≡ Some node → slice_get new.nodes.items i ≡ Some node) where
  each_grown : (R S : ℕ → List ℕ → Type 0) → ((i : ℕ) (lengths : List ℕ) → R i lengths → S i lengths) → (names lengths : List ℕ) → EachWhole old R names lengths → EachWhole new S names lengths
  each_grown R S gives [] lengths h = h
  each_grown R S gives (name ∷ names) lengths (i, first, rest, is, h, more, same) = (i, first, rest, files name i is, gives i first h, each_grown R S gives names rest more, same)

  whole_grown : (most i : ℕ) (lengths : List ℕ) → Whole old most i lengths → Whole new most i lengths
  whole_grown zero i lengths h = absurd h
  whole_grown (suc most) i lengths (node, rest, there, each, same) = (node, rest, nodes i node there, each_grown (Whole old most) (Whole new most) (whole_grown most) node.uses.items rest each, same)

  pub Costs-grown : (height cost i : ℕ) → Costs old height cost i → Costs new height cost i
  Costs-grown height cost i costs = record {
    lengths = costs.lengths;
    whole = record { opened = whole_grown height i costs.lengths costs.whole.opened };
    costs = rw (sym budget) at costs.costs;
  }

  pub HasFirst-grown : (uses : List ℕ) (first : FirstUses) → HasFirst old uses first → HasFirst new uses first
  HasFirst-grown uses first has = record {
    within = has.within;
    lengths = has.lengths;
    whole = record { opened = each_grown (Whole old first.highest) (Whole new first.highest) (whole_grown first.highest) _ has.lengths has.whole.opened };
    costs = rw (sym budget) at has.costs;
  }

  -- ---- ways
  abbrev Uses-grown : (room i name : ℕ) (lengths : List ℕ) → Uses old room i name lengths → Uses new room i name lengths
  Uses-grown room i name lengths uses = record {
    node = uses.node;
    there = nodes i uses.node uses.there;
    before = uses.before;
    after = uses.after;
    split = uses.split;
    whole = record { opened = each_grown (Whole old room) (Whole new room) (whole_grown room) uses.before lengths uses.whole.opened };
  }

  pub LeadsToUse-grown : (R S : List ℕ → Option ℕ → ℕ → Type 0) → ((names : List ℕ) (left : Option ℕ) (i : ℕ) → R names left i → S names left i) → (room : ℕ) (names : List ℕ) (left : Option ℕ) (name : ℕ) → LeadsToUse old R room names left name → LeadsToUse new S room names left name
  LeadsToUse-grown R S gives room names left name leads = record {
    others = leads.others;
    old = leads.old;
    at = leads.at;
    lengths = leads.lengths;
    leading = gives leads.others leads.old leads.at leads.leading;
    uses = Uses-grown room leads.at name leads.lengths leads.uses;
    leaves = leads.leaves;
    names_are = leads.names_are;
  }

  pub Leads-grown : (n : ℕ) (names : List ℕ) (left : Option ℕ) (i : ℕ) → Leads old n names left i → Leads new n names left i
  Leads-grown zero names left i (none, is, top) = (none, is ∙ sym budget, top)
  Leads-grown (suc n) names left i (name, leads, there) = (name, LeadsToUse-grown (Leads old n) (Leads new n) (Leads-grown n) (15 - n) names left name leads, files name i there)
