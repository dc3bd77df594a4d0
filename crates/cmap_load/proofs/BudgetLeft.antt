-- What is left of a budget.
use Rattle.std.proofs.Common.{◌≡◌, refl, sym, subst, ℕ, ◌+◌, ◌≤◌, List, [], ◌∷◌, ◌++◌, Option, Some, None, append_assoc, arith, sum, zero-add}
use Rattle.std.proofs.lemmas.List.Sums.{sum_by-append}
use Rattle.cmap_load.specs.Budgets.{IsOver, PassesAt}
use Rattle.cmap_load.specs.BytesSpent.{Leaves}
use Rattle.cmap_load.specs.Loading.{IsCost, IsLeft}

pub sum-append : (front back : List ℕ) → sum (front ++ back) ≡ sum front + sum back
sum-append front back = sum_by-append (λ x. x) front back

pub IsOver-more : (budget : Option ℕ) (few many : ℕ) → few ≤ many → IsOver budget few → IsOver budget many
IsOver-more None few many le h = h
IsOver-more (Some budget) few many le h = omega arith

pub Leaves-none : (budget : Option ℕ) → Leaves budget 0 budget
Leaves-none None = refl
Leaves-none (Some budget) = omega arith

pub Leaves-one : (budget left : Option ℕ) (count : ℕ) → Leaves budget count left → Leaves budget (sum (count ∷ [])) left
Leaves-one budget left count h = subst (λ n. Leaves budget n left) (sym (zero-add count)) h

pub Leaves-more : (budget left last : Option ℕ) (first second : ℕ) → Leaves budget first left → Leaves left second last → Leaves budget (first + second) last
Leaves-more None None last first second h k = k
Leaves-more None (Some left) last first second h k = absurd (cc)
Leaves-more (Some budget) None last first second h k = absurd h
Leaves-more (Some budget) (Some left) None first second h k = absurd k
Leaves-more (Some budget) (Some left) (Some last) first second h k = omega arith

-- the same of two lists of lengths
pub Leaves-append : (budget left last : Option ℕ) (front back : List ℕ) → Leaves budget (sum front) left → Leaves left (sum back) last → Leaves budget (sum (front ++ back)) last
Leaves-append budget left last front back h k = subst (λ n. Leaves budget n last) (sym (sum-append front back)) (Leaves-more budget left last (sum front) (sum back) h k)

pub Leaves-over : (budget left : Option ℕ) (first second : ℕ) → Leaves budget first left → IsOver left second → IsOver budget (first + second)
Leaves-over None None first second h k = k
Leaves-over None (Some left) first second h k = absurd (cc)
Leaves-over (Some budget) None first second h k = absurd h
Leaves-over (Some budget) (Some left) first second h k = omega arith

pub Leaves-over_append : (budget left : Option ℕ) (front back : List ℕ) → Leaves budget (sum front) left → IsOver left (sum back) → IsOver budget (sum (front ++ back))
Leaves-over_append budget left front back h k = subst (λ n. IsOver budget n) (sym (sum-append front back)) (Leaves-over budget left (sum front) (sum back) h k)

pub Leaves-within : (budget left : Option ℕ) (first second : ℕ) → Leaves budget first left → (IsOver left second → ⊥) → IsOver budget (first + second) → ⊥
Leaves-within None left first second h within over = over
Leaves-within (Some budget) None first second h within over = h
Leaves-within (Some budget) (Some left) first second h within over = within (omega arith)

pub IsOver-none : (budget : Option ℕ) → IsOver budget 0 → ⊥
IsOver-none None over = over
IsOver-none (Some budget) over = absurd (omega arith)

-- the file that is the first to pass what other files leave is the first to pass the budget
pub PassesAt-after : {P Q : List (List ℕ) → List ℕ → Type 0} {budget left : Option ℕ} (front : List ℕ) (names others : List (List ℕ)) → Leaves budget (sum front) left
    → ((lengths : List ℕ) → P names lengths → Q others (front ++ lengths)) → PassesAt P left names → PassesAt Q budget others
PassesAt-after {P} {Q} {budget} {left} front names others leaves moved past =
    let all = append_assoc front past.before (past.last ∷ []) in
    record {
      before = front ++ past.before;
      last = past.last;
      opened = subst (Q others) (sym all) (moved (past.before ++ past.last ∷ []) past.opened);
      within = λ over. Leaves-within budget left (sum front) (sum past.before) leaves past.within (subst (IsOver budget) (sum-append front past.before) over);
      over = subst (λ lengths. IsOver budget (sum lengths)) (sym all) (Leaves-over_append budget left front (past.before ++ past.last ∷ []) leaves past.over);
    }

pub not_over : (budget left : Option ℕ) (count : ℕ) → Leaves budget count left → IsOver budget count → ⊥
not_over None left count h k = k
not_over (Some budget) None count h k = h
not_over (Some budget) (Some left) count h k = omega arith

-- ---- costs
pub IsCost-left : (budget left : Option ℕ) (before count cost : ℕ) → Leaves budget before left → IsCost left count cost → IsCost budget count cost
IsCost-left None left before count cost leaves h = tt
IsCost-left (Some budget) None before count cost leaves h = absurd leaves
IsCost-left (Some budget) (Some left) before count cost leaves h = h

pub Leaves-cost : (budget left after : Option ℕ) (count cost : ℕ) → IsLeft budget left → IsCost budget count cost → Leaves left cost after → Leaves left count after
Leaves-cost None None after count cost is costs h = h
Leaves-cost None (Some left) after count cost (before, is) costs h = absurd (cc)
Leaves-cost (Some budget) None after count cost (before, is) costs h = absurd is
Leaves-cost (Some budget) (Some left) after count cost is costs h = subst (λ n. Leaves (Some left) n after) (sym costs) h

pub IsOver-cost : (budget left : Option ℕ) (count cost : ℕ) → IsLeft budget left → IsCost budget count cost → IsOver left cost → IsOver left count
IsOver-cost None None count cost is costs h = h
IsOver-cost None (Some left) count cost (before, is) costs h = absurd (cc)
IsOver-cost (Some budget) None count cost (before, is) costs h = absurd is
IsOver-cost (Some budget) (Some left) count cost is costs h = subst (λ n. IsOver (Some left) n) (sym costs) h

pub IsLeft-less : (budget left after : Option ℕ) (count : ℕ) → IsLeft budget left → Leaves left count after → IsLeft budget after
IsLeft-less None None after count (before, is) h = (0, h)
IsLeft-less None (Some left) after count (before, is) h = absurd (cc)
IsLeft-less (Some budget) None after count (before, is) h = absurd is
IsLeft-less (Some budget) (Some left) None count (before, is) h = absurd h
IsLeft-less (Some budget) (Some left) (Some after) count (before, is) h = (before + count, omega arith)
