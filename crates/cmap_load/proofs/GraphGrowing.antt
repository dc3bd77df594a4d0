-- A graph with more names or one file more.
use Rattle.std.proofs.Common.{◌≡◌, ◌≢◌, refl, sym, ap, subst, ◌∙◌, arith, ℕ, zero, suc, ◌+◌, ◌-◌, ◌<◌, ◌≤◌, List, [], ◌∷◌, ◌++◌, All, length, get_or, length-append, Option, Some, None, inl, inr}
use Rattle.std.specs.Prelude.{◌⊎◌, slice_get, slice_index}
use Rattle.std.specs.Global.{Vec}
use Rattle.std.proofs.Math.ListN.{set}
use Rattle.std.proofs.Math.Seq.{get_or-append_seam}
use Rattle.std.proofs.lemmas.Bool.{cases_eq, cases_lt}
use Rattle.std.proofs.lemmas.List.{get_or_append_left}
use Rattle.std.proofs.lemmas.List.Elements.{All-weaker}
use Rattle.std.proofs.lemmas.Option.{slice_get_within}
use Rattle.cmap_load.specs.Loading.{IsCost, IsLeft}
use Rattle.cmap_load.specs.Graphs.{AreNamed, Costs, HasFirst, IsAwaiting, IsBegun, IsFileOf, IsGraph, IsKept, Leads}
use Rattle.cmap_load.specs.declared.graph.Graph.{Graph}
use Rattle.cmap_load.specs.declared.graph.Node.{Node}
use Rattle.cmap_load.specs.declared.graph.step.FirstUses.{FirstUses}
use Rattle.cmap_load.specs.declared.graph.step.Wanted.{Wanted}
use Rattle.cmap_load.proofs.GraphFiles.{Costs-grown, HasFirst-grown, Leads-grown, LeadsToUse-grown}

pub slice_get_pushed : {A : Type 0} (xs : List A) (y : A) (i : ℕ) (x : A) → slice_get (xs ++ y ∷ []) i ≡ Some x → (slice_get xs i ≡ Some x) ⊎ ((i ≡ length xs) × (x ≡ y))
slice_get_pushed [] y zero x h = inr (refl, (cc))
slice_get_pushed [] y (suc i) x h = absurd (cc)
slice_get_pushed (z ∷ xs) y zero x h = inl h
slice_get_pushed (z ∷ xs) y (suc i) x h = elim (slice_get_pushed xs y i x h) [ inl there ↦ inl there | inr last ↦ inr (ap suc last.0, last.1) ]

pub slice_get_left : {A : Type 0} (xs ys : List A) (i : ℕ) (x : A) → slice_get xs i ≡ Some x → slice_get (xs ++ ys) i ≡ Some x
slice_get_left [] ys i x h = absurd (cc)
slice_get_left (z ∷ xs) ys zero x h = h
slice_get_left (z ∷ xs) ys (suc i) x h = slice_get_left xs ys i x h

pub slice_get_last : {A : Type 0} (xs : List A) (y : A) → slice_get (xs ++ y ∷ []) (length xs) ≡ Some y
slice_get_last [] y = refl
slice_get_last (z ∷ xs) y = slice_get_last xs y

pub slice_get-set_other : {A : Type 0} (xs : List A) (i j : ℕ) (x : A) → j ≢ i → slice_get (set xs i x) j ≡ slice_get xs j
slice_get-set_other [] i j x other = refl
slice_get-set_other (y ∷ xs) zero zero x other = absurd (other refl)
slice_get-set_other (y ∷ xs) zero (suc j) x other = refl
slice_get-set_other (y ∷ xs) (suc i) zero x other = refl
slice_get-set_other (y ∷ xs) (suc i) (suc j) x other = slice_get-set_other xs i j x (λ same. other (ap suc same))

pub slice_get-set_same : {A : Type 0} (xs : List A) (i : ℕ) (x y : A) → slice_get (set xs i x) i ≡ Some y → y ≡ x
slice_get-set_same [] i x y h = absurd (cc)
slice_get-set_same (z ∷ xs) zero x y h = cc
slice_get-set_same (z ∷ xs) (suc i) x y h = slice_get-set_same xs i x y h

pub named_on : (few many : ℕ) (names : List ℕ) → few ≤ many → All (λ name. name < few) names → All (λ name. name < many) names
named_on few many names le are = All-weaker (λ name. name < few) (λ name. name < many) (λ name lt. omega (arith, lt, le)) names are

-- ---- more names
pub IsKept-none : (graph : Graph) → IsKept graph graph
IsKept-none graph = record { budget = refl; names = omega arith; found = λ name file is. is; back = λ name i is. is; nodes = refl; heights = refl; costs = refl; firsts = refl }

pub IsKept-more : (a b c : Graph) → IsKept a b → IsKept b c → IsKept a c
IsKept-more a b c first second = record {
  budget = second.budget ∙ first.budget;
  names = (let one = first.names in let other = second.names in omega (arith, one, other));
  found = λ name file is. second.found name file (first.found name file is);
  back = λ name i is. first.back name i (second.back name i is);
  nodes = second.nodes ∙ first.nodes;
  heights = second.heights ∙ first.heights;
  costs = second.costs ∙ first.costs;
  firsts = second.firsts ∙ first.firsts;
}

-- more memory
pub IsKept-same : (old new : Graph) → new.budget ≡ old.budget → new.found.items ≡ old.found.items → new.nodes.items ≡ old.nodes.items → new.heights.items ≡ old.heights.items → new.costs.items ≡ old.costs.items
    → new.firsts.items ≡ old.firsts.items → IsKept old new
IsKept-same old new budget found nodes heights costs firsts = record {
  budget = budget;
  names = (let long = ap length found in omega (arith, long));
  found = λ name file is. ap (λ l. slice_get l name) found ∙ is;
  back = λ name i is. ap (λ l. slice_get l name) (sym found) ∙ is;
  nodes = nodes;
  heights = heights;
  costs = costs;
  firsts = firsts;
}

pub IsKept-named : (graph : Graph) (found : Vec (Option ℕ)) → found.items ≡ graph.found.items ++ None ∷ [] → IsKept graph (record graph { found = found })
IsKept-named graph found pushed = record {
  budget = refl;
  names = (let long : length found.items ≡ length graph.found.items + 1 = ap length pushed ∙ simp length-append in omega (arith, long));
  found = λ name file is. ap (λ l. slice_get l name) pushed ∙ slice_get_left graph.found.items (None ∷ []) name file is;
  back = λ name i is. elim (slice_get_pushed graph.found.items None name (Some i) (ap (λ l. slice_get l name) (sym pushed) ∙ is)) [
    | inl before ↦ before
    | inr last ↦ (let e : Some i ≡ None = last.1 in absurd (cc))
  ];
  nodes = refl;
  heights = refl;
  costs = refl;
  firsts = refl;
}

module _ (old new : Graph) (kept : IsKept old new) where
  file_kept : (name i : ℕ) → IsFileOf old name i → IsFileOf new name i
  file_kept name i is = kept.found name (Some i) is

  node_kept : (i : ℕ) (node : Node) → slice_get old.nodes.items i ≡ Some node → slice_get new.nodes.items i ≡ Some node
  node_kept i node there = ap (λ l. slice_get l i) kept.nodes ∙ there

  high_kept : IsGraph old → (i : ℕ) → i < length new.nodes.items → slice_index new.heights.items i ≤ 16 → Costs new (slice_index new.heights.items i) (slice_index new.costs.items i) i
  high_kept is i lt le =
      let long = ap length kept.nodes in
      let height : slice_index new.heights.items i ≡ slice_index old.heights.items i = ap (λ l. get_or l i 0) kept.heights in
      let cost : slice_index new.costs.items i ≡ slice_index old.costs.items i = ap (λ l. get_or l i 0) kept.costs in
      let within : i < length old.nodes.items = omega (arith, lt, long) in
      let was : slice_index old.heights.items i ≤ 16 = omega (arith, height, le) in
      subst (λ h. Costs new h (slice_index new.costs.items i) i) (sym height)
      (subst (λ n. Costs new (slice_index old.heights.items i) n i) (sym cost)
      (Costs-grown old new kept.budget file_kept node_kept (slice_index old.heights.items i) (slice_index old.costs.items i) i (is.high i within was)))

  pub IsGraph-kept : IsGraph old → IsGraph new
  IsGraph-kept is = record {
    heights = ap length kept.heights ∙ is.heights ∙ sym (ap length kept.nodes);
    costs = ap length kept.costs ∙ is.costs ∙ sym (ap length kept.nodes);
    firsts = ap length kept.firsts ∙ is.firsts ∙ sym (ap length kept.nodes);
    named = λ i node there. named_on (length old.found.items) (length new.found.items) node.uses.items kept.names (is.named i node (ap (λ l. slice_get l i) (sym kept.nodes) ∙ there));
    known = λ name i there. (let lt = is.known name i (kept.back name i there) in let long = ap length kept.nodes in omega (arith, lt, long));
    high = high_kept is;
    begun = λ i node first there has.
        HasFirst-grown old new kept.budget file_kept node_kept node.uses.items first (is.begun i node first (ap (λ l. slice_get l i) (sym kept.nodes) ∙ there) (ap (λ l. slice_get l i) (sym kept.firsts) ∙ has));
  }

  pub IsBegun-kept : IsBegun old → IsBegun new
  IsBegun-kept begun = record {
    some = (let some = begun.some in let long = ap length kept.nodes in omega (arith, some, long));
    high = (let high = begun.high in let same : slice_index new.heights.items 0 ≡ slice_index old.heights.items 0 = ap (λ l. get_or l 0 0) kept.heights in omega (arith, high, same));
  }

  pub IsAwaiting-kept : (wanted : Wanted) → IsAwaiting old wanted → IsAwaiting new wanted
  IsAwaiting-kept wanted is = record {
    n = is.n;
    less = is.less;
    leads = LeadsToUse-grown old new kept.budget file_kept node_kept (Leads old is.n) (Leads new is.n) (Leads-grown old new kept.budget file_kept node_kept is.n) (15 - is.n) wanted.names.items wanted.left wanted.name is.leads;
    left = subst (λ budget. IsLeft budget wanted.left) (sym kept.budget) is.left;
    new = kept.found wanted.name None is.new;
  }

-- ---- a file
abbrev pub no_uses : FirstUses
no_uses = record { count = 0; highest = 0; cost = 0 }

no_cost : (budget : Option ℕ) → IsCost budget 0 0
no_cost None = tt
no_cost (Some budget) = refl

module _ (old new : Graph) (is : IsGraph old) (node : Node) (budget : new.budget ≡ old.budget) (long : length new.found.items ≡ length old.found.items) (files : (name i : ℕ) → IsFileOf old name i → IsFileOf new name i)
    (nodes : new.nodes.items ≡ old.nodes.items ++ node ∷ []) (heights : new.heights.items ≡ old.heights.items ++ 17 ∷ []) (costs : new.costs.items ≡ old.costs.items ++ 0 ∷ []) (firsts : new.firsts.items ≡ old.firsts.items ++ no_uses ∷ []) where
  one_longer : length new.nodes.items ≡ length old.nodes.items + 1
  one_longer = ap length nodes ∙ simp length-append

  node_still : (i : ℕ) (other : Node) → slice_get old.nodes.items i ≡ Some other → slice_get new.nodes.items i ≡ Some other
  node_still i other there = ap (λ l. slice_get l i) nodes ∙ slice_get_left old.nodes.items (node ∷ []) i other there

  high_still : (i : ℕ) → i < length new.nodes.items → slice_index new.heights.items i ≤ 16 → Costs new (slice_index new.heights.items i) (slice_index new.costs.items i) i
  high_still i lt le = elim (cases_lt i (length old.nodes.items)) [
    | inl within ↦ (
        let in_heights : i < length old.heights.items = omega (arith, is.heights, within) in
        let in_costs : i < length old.costs.items = omega (arith, is.costs, within) in
        let same : slice_index new.heights.items i ≡ slice_index old.heights.items i = ap (λ l. get_or l i 0) heights ∙ get_or_append_left old.heights.items (17 ∷ []) 0 i in_heights in
        let cost : slice_index new.costs.items i ≡ slice_index old.costs.items i = ap (λ l. get_or l i 0) costs ∙ get_or_append_left old.costs.items (0 ∷ []) 0 i in_costs in
        let was : slice_index old.heights.items i ≤ 16 = omega (arith, same, le) in
        subst (λ h. Costs new h (slice_index new.costs.items i) i) (sym same)
        (subst (λ n. Costs new (slice_index old.heights.items i) n i) (sym cost)
        (Costs-grown old new budget files node_still (slice_index old.heights.items i) (slice_index old.costs.items i) i (is.high i within was))))
    | inr past ↦ (
        let end : i ≡ length old.heights.items = omega (arith, past, lt, one_longer, is.heights) in
        let high : slice_index new.heights.items i ≡ 17 = ap (λ l. get_or l i 0) heights ∙ ap (λ k. get_or (old.heights.items ++ 17 ∷ []) k 0) end ∙ get_or-append_seam old.heights.items 17 [] 0 in
        absurd (omega (arith, high, le)))
  ]

  begun_still : (i : ℕ) (other : Node) (first : FirstUses) → slice_get new.nodes.items i ≡ Some other → slice_get new.firsts.items i ≡ Some first → HasFirst new other.uses.items first
  begun_still i other first there known = elim (slice_get_pushed old.firsts.items no_uses i first (ap (λ l. slice_get l i) (sym firsts) ∙ known)) [
    | inl before ↦ elim (slice_get_pushed old.nodes.items node i other (ap (λ l. slice_get l i) (sym nodes) ∙ there)) [
      | inl was ↦ HasFirst-grown old new budget files node_still other.uses.items first (is.begun i other first was before)
      | inr last ↦ (let within = slice_get_within old.firsts.items i first before in absurd (omega (arith, within, last.0, is.firsts)))
    ]
    | inr last ↦ subst (HasFirst new other.uses.items) (sym last.1) (record { within = omega arith; lengths = []; whole = record { opened = refl }; costs = no_cost new.budget })
  ]

  pub IsGraph-pushed : ((name i : ℕ) → IsFileOf new name i → i < length new.nodes.items) → AreNamed old node.uses.items → IsGraph new
  IsGraph-pushed known named = record {
    heights = ap length heights ∙ simp length-append (omega (arith, is.heights, one_longer));
    costs = ap length costs ∙ simp length-append (omega (arith, is.costs, one_longer));
    firsts = ap length firsts ∙ simp length-append (omega (arith, is.firsts, one_longer));
    named = λ i other there. elim (slice_get_pushed old.nodes.items node i other (ap (λ l. slice_get l i) (sym nodes) ∙ there)) [
      | inl was ↦ subst (λ n. All (λ name. name < n) other.uses.items) (sym long) (is.named i other was)
      | inr last ↦ subst (λ n. All (λ name. name < n) other.uses.items) (sym long) (subst (λ (o : Node). AreNamed old o.uses.items) (sym last.1) named)
    ];
    known = known;
    high = high_still;
    begun = begun_still;
  }

  -- the top file has no name
  pub IsGraph-top : new.found.items ≡ old.found.items → AreNamed old node.uses.items → IsGraph new
  IsGraph-top same named = IsGraph-pushed (λ name i there. let lt = is.known name i (ap (λ l. slice_get l name) (sym same) ∙ there) in omega (arith, lt, one_longer)) named

  -- the file of a name
  pub IsGraph-file : (name : ℕ) → new.found.items ≡ set old.found.items name (Some (length old.nodes.items)) → AreNamed old node.uses.items → IsGraph new
  IsGraph-file name is_set named = IsGraph-pushed (λ other i there. elim (cases_eq other name) [
    | inl here ↦ (
        let at_name : slice_get (set old.found.items name (Some (length old.nodes.items))) name ≡ Some (Some i) = ap (λ l. slice_get l name) (sym is_set) ∙ ap (slice_get new.found.items) (sym here) ∙ there in
        let e : Some i ≡ Some (length old.nodes.items) = slice_get-set_same old.found.items name (Some (length old.nodes.items)) (Some i) at_name in
        let last : i ≡ length old.nodes.items = cc in
        omega (arith, last, one_longer))
    | inr differs ↦ (
        let was : slice_get old.found.items other ≡ Some (Some i) = sym (slice_get-set_other old.found.items name other (Some (length old.nodes.items)) differs) ∙ ap (λ l. slice_get l other) (sym is_set) ∙ there in
        let lt = is.known other i was in
        omega (arith, lt, one_longer))
  ]) named

-- names that have a file keep it, if a name without a file gets one
pub files_still : (old new : Graph) (name index : ℕ) → slice_get old.found.items name ≡ Some None → new.found.items ≡ set old.found.items name (Some index) → (other i : ℕ) → IsFileOf old other i → IsFileOf new other i
files_still old new name index none is_set other i there = elim (cases_eq other name) [
  | inl here ↦ (
      let at_name : slice_get old.found.items name ≡ Some (Some i) = ap (slice_get old.found.items) (sym here) ∙ there in
      let e : Some None ≡ Some (Some i) = sym none ∙ at_name in
      absurd (cc))
  | inr differs ↦ ap (λ l. slice_get l other) is_set ∙ slice_get-set_other old.found.items name other (Some index) differs ∙ there
]
