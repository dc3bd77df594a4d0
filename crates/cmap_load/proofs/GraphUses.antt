-- Uses that are passed over, and one that isn't.
use Rattle.std.proofs.Common.{◌≡◌, refl, sym, ap, subst, ◌∙◌, arith, ℕ, ◌+◌, ◌-◌, ◌<◌, ◌≤◌, List, [], ◌∷◌, ◌++◌, add-one, append-nil, append_assoc, length, length-append, sum, take, drop, get_or, Option, Some, None}
use Rattle.std.specs.Prelude.{slice_get, slice_index}
use Rattle.std.proofs.lemmas.List.{drop_more, length-take-le, take-append-drop, take_at, take_more, take_rest}
use Rattle.cmap_load.specs.BytesSpent.{Leaves}
use Rattle.cmap_load.specs.Loading.{IsCost, IsLeft}
use Rattle.cmap_load.specs.Graphs.{AreFirst, ArePassed, AreWhole, HasFirst, HasStuck, IsFileOf, IsGraph, IsPassedOver, IsSpent, IsStuck, IsStuckAt, IsWhole, Whole}
use Rattle.cmap_load.specs.declared.graph.Graph.{Graph}
use Rattle.cmap_load.specs.declared.graph.Node.{Node}
use Rattle.cmap_load.specs.declared.graph.step.FirstUses.{FirstUses}
use Rattle.cmap_load.specs.declared.graph.step.Stuck.{Stuck}
use Rattle.cmap_load.proofs.BudgetLeft.{IsCost-left, IsLeft-less, Leaves-append, Leaves-cost, Leaves-none, Leaves-one}
use Rattle.cmap_load.proofs.GraphFiles.{each_after, each_as, whole_more}

module _ (graph : Graph) where
  uses_more : (room more : ℕ) → room ≤ more → (uses lengths : List ℕ) → AreWhole graph room uses lengths → AreWhole graph more uses lengths
  uses_more room more le uses lengths are = record { opened = each_as graph (Whole graph room) (Whole graph more) (whole_more graph room more le) uses lengths are.opened }

  both_whole : (room : ℕ) (before after first last : List ℕ) → AreWhole graph room before first → AreWhole graph room after last → AreWhole graph room (before ++ after) (first ++ last)
  both_whole room before after first last one other = record { opened = each_after graph (Whole graph room) before after first last one.opened other.opened }

  one_whole : (room name i : ℕ) (lengths : List ℕ) → IsFileOf graph name i → IsWhole graph room i lengths → AreWhole graph room (name ∷ []) lengths
  one_whole room name i lengths is whole = record { opened = (i, lengths, [], is, whole.opened, refl, sym (append-nil lengths)) }

  -- a use of a file that is whole
  pub passed_over : (is : IsGraph graph) (i height cost : ℕ) (left after : Option ℕ) → i < length graph.nodes.items → height ≡ slice_index graph.heights.items i → cost ≡ slice_index graph.costs.items i → height ≤ 16 → IsLeft graph.budget left
      → Leaves left cost after → IsPassedOver graph (Some i) height left after
  passed_over is i height cost left after lt high costs le within leaves =
      let few : slice_index graph.heights.items i ≤ 16 = omega (arith, high, le) in
      let whole = is.high i lt few in
      let spends : Leaves left (slice_index graph.costs.items i) after = subst (λ n. Leaves left n after) costs leaves in
      record {
        lengths = whole.lengths;
        whole = subst (λ h. IsWhole graph h i whole.lengths) (sym high) whole.whole;
        leaves = Leaves-cost graph.budget left after (sum whole.lengths) (slice_index graph.costs.items i) within whole.costs spends;
      }

  pub passed_none : (left : Option ℕ) → ArePassed graph 0 [] left left
  passed_none left = record { lengths = []; whole = record { opened = refl }; leaves = Leaves-none left }

  -- uses, and others after them
  passed_both : (low high most : ℕ) (before after : List ℕ) (old mid new : Option ℕ) → low ≤ most → high ≤ most → ArePassed graph low before old mid → ArePassed graph high after mid new → ArePassed graph most (before ++ after) old new
  passed_both low high most before after old mid new le less first second = record {
    lengths = first.lengths ++ second.lengths;
    whole = both_whole most before after first.lengths second.lengths (uses_more low most le before first.lengths first.whole) (uses_more high most less after second.lengths second.whole);
    leaves = Leaves-append old mid new first.lengths second.lengths first.leaves second.leaves;
  }

  -- ---- the use at an index
  module _ (uses : List ℕ) (i d : ℕ) (lt : i < length uses) (highest : ℕ) (old mid : Option ℕ) (passed : ArePassed graph highest (take i uses) old mid) where
    pub passed_more : (found : Option ℕ) (height most : ℕ) (new : Option ℕ) → slice_get graph.found.items (get_or uses i d) ≡ Some found → IsPassedOver graph found height mid new → highest ≤ most → height ≤ most → ArePassed graph most (take (i + 1) uses) old new
    passed_more None height most new found over le less = absurd over
    passed_more (Some at) height most new found spent le less =
        let here : ArePassed graph height (get_or uses i d ∷ []) mid new = record { lengths = spent.lengths; whole = one_whole height (get_or uses i d) at spent.lengths found spent.whole; leaves = spent.leaves } in
        subst (λ u. ArePassed graph most u old new) (sym (take_more uses i d lt)) (passed_both highest height most (take i uses) (get_or uses i d ∷ []) old mid new le less passed here)

    pub stuck_at : (room : ℕ) (stuck : Stuck) → stuck.name ≡ get_or uses i d → stuck.left ≡ mid → stuck.before.count ≡ i → stuck.before.highest ≡ highest → ((count : ℕ) → Leaves old count mid → IsCost old count stuck.before.cost) → highest ≤ room
        → slice_get graph.found.items stuck.name ≡ Some stuck.found → IsStuck graph room stuck.left stuck.found → IsStuckAt graph room uses old stuck
    stuck_at room stuck name left counted high costs le found has_none = record {
      before = take i uses;
      after = drop (i + 1) uses;
      split = sym (take-append-drop i uses) ∙ ap (λ l. take i uses ++ l) (drop_more uses i d lt) ∙ ap (λ n. take i uses ++ n ∷ drop (i + 1) uses) (sym name);
      count = let within : i ≤ length uses = omega (arith, lt) in counted ∙ sym (length-take-le i uses within);
      high = omega (arith, high, le);
      passed = subst (λ h. ArePassed graph h (take i uses) old stuck.left) (sym high) (subst (λ l. ArePassed graph highest (take i uses) old l) (sym left) passed);
      cost = λ count leaves. costs count (subst (λ l. Leaves old count l) left leaves);
      found = found;
      has_none = has_none;
    }

  -- ---- the first uses, which are known
  pub first_passed : (room : ℕ) (uses : List ℕ) (first : FirstUses) (old new : Option ℕ) → HasFirst graph uses first → first.highest ≤ room → IsLeft graph.budget old → Leaves old first.cost new → AreFirst graph room uses old new first
  first_passed room uses first old new has le left leaves = record {
    within = has.within;
    high = le;
    passed = record { lengths = has.lengths; whole = has.whole; leaves = Leaves-cost graph.budget old new (sum has.lengths) first.cost left has.costs leaves };
  }

  module _ (room : ℕ) (uses : List ℕ) (old mid : Option ℕ) (first : FirstUses) (are : AreFirst graph room uses old mid first) where
    pub first_left : IsLeft graph.budget old → IsLeft graph.budget mid
    first_left left = IsLeft-less graph.budget old mid (sum are.passed.lengths) left are.passed.leaves

    pub all_passed : (high most : ℕ) (new : Option ℕ) → first.highest ≤ most → high ≤ most → ArePassed graph high (drop first.count uses) mid new → ArePassed graph most uses old new
    all_passed high most new le less rest = subst (λ l. ArePassed graph most l old new) (take-append-drop first.count uses) (passed_both first.highest high most (take first.count uses) (drop first.count uses) old mid new le less are.passed rest)

    pub stuck_after : (stuck : Stuck) → IsStuckAt graph room (drop first.count uses) mid stuck → (most cost : ℕ) → first.highest ≤ most → stuck.before.highest ≤ most → most ≤ room → ((count : ℕ) → Leaves old count stuck.left → IsCost old count cost)
        → IsStuckAt graph room uses old (record stuck { before = record { count = first.count + stuck.before.count; highest = most; cost = cost } })
    stuck_after stuck at most cost le less few costs = record {
      before = take first.count uses ++ at.before;
      after = at.after;
      split = sym (take-append-drop first.count uses) ∙ ap (λ l. take first.count uses ++ l) at.split ∙ sym (append_assoc (take first.count uses) at.before (stuck.name ∷ at.after));
      count = ap (λ n. first.count + n) at.count ∙ ap (λ n. n + length at.before) (sym (length-take-le first.count uses are.within)) ∙ sym (length-append (take first.count uses) at.before);
      high = few;
      passed = passed_both first.highest stuck.before.highest most (take first.count uses) at.before old mid stuck.left le less are.passed at.passed;
      cost = costs;
      found = at.found;
      has_none = at.has_none;
    }

    -- the uses before one are uses of the file
    pub count_within : (stuck : Stuck) → IsStuckAt graph room (drop first.count uses) mid stuck → first.count + stuck.before.count ≤ length uses
    count_within stuck at =
        let all = ap length (take-append-drop first.count uses) in
        let here = length-append (take first.count uses) (drop first.count uses) in
        let front = length-take-le first.count uses are.within in
        let rest = ap length at.split in
        let parts = length-append at.before (stuck.name ∷ at.after) in
        omega (arith, all, here, front, rest, parts, at.count)

  -- the rest of the uses of a file
  pub rest_of : (i k : ℕ) (read node : Node) (uses : List ℕ) → slice_get graph.nodes.items i ≡ Some read → slice_get graph.nodes.items i ≡ Some node → uses ≡ read.uses.items → take (length uses - k) (drop k uses) ≡ drop k node.uses.items
  rest_of i k read node uses here there is =
      let e : Some read ≡ Some node = sym here ∙ there in
      let same : read ≡ node = cc in
      take_rest uses k ∙ ap (λ l. drop k l) is ∙ ap (λ (n : Node). drop k n.uses.items) same

  -- ---- a file
  module _ (i : ℕ) (node : Node) (there : slice_get graph.nodes.items i ≡ Some node) (left mid : Option ℕ) (leaves : Leaves left node.length mid) where
    pub whole_at : (highest : ℕ) (after : Option ℕ) → ArePassed graph highest node.uses.items mid after → IsSpent graph (highest + 1) i left after
    whole_at highest after passed = record {
      lengths = node.length ∷ passed.lengths;
      whole = subst (λ h. IsWhole graph h i (node.length ∷ passed.lengths)) (sym (add-one highest)) (record { opened = (node, passed.lengths, there, passed.whole.opened, refl) });
      leaves = Leaves-append left mid after (node.length ∷ []) passed.lengths (Leaves-one left mid node.length leaves) passed.leaves;
    }

    pub has_stuck : (room : ℕ) (stuck : Stuck) → IsLeft graph.budget mid → IsStuckAt graph room node.uses.items mid stuck → HasStuck graph room i left stuck
    has_stuck room stuck within at =
        let same : take stuck.before.count node.uses.items ≡ at.before = ap (λ l. take stuck.before.count l) at.split ∙ take_at at.before (stuck.name ∷ at.after) stuck.before.count (sym at.count) in
        let long = ap length at.split in
        let parts = length-append at.before (stuck.name ∷ at.after) in
        record {
          lengths = at.passed.lengths;
          uses = record { node = node; there = there; before = at.before; after = at.after; split = at.split; whole = uses_more stuck.before.highest room at.high at.before at.passed.lengths at.passed.whole };
          first = record {
            within = omega (arith, long, parts, at.count);
            lengths = at.passed.lengths;
            whole = subst (λ l. AreWhole graph stuck.before.highest l at.passed.lengths) (sym same) at.passed.whole;
            costs = IsCost-left graph.budget mid within.0 (sum at.passed.lengths) stuck.before.cost within.1 (at.cost (sum at.passed.lengths) at.passed.leaves);
          };
          leaves = Leaves-append left mid stuck.left (node.length ∷ []) at.passed.lengths (Leaves-one left mid node.length leaves) at.passed.leaves;
          found = at.found;
          has_none = at.has_none;
        }

pub IsLeft-over : (graph : Graph) (found : Option ℕ) (height : ℕ) (old new : Option ℕ) → IsPassedOver graph found height old new → IsLeft graph.budget old → IsLeft graph.budget new
IsLeft-over graph None height old new over left = absurd over
IsLeft-over graph (Some i) height old new spent left = IsLeft-less graph.budget old new (sum spent.lengths) left spent.leaves
