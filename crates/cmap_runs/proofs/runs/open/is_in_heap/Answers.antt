use Rattle.std.proofs.Common.{◌≡◌, ◌<◌, ◌≤◌, ◌-◌, ℕ, zero, suc, true, false, List, [], ◌∷◌, length, nat_cmp, refl, ap, sym, ◌∙◌, None, arith}
use Rattle.std.specs.Prelude.{All, slice_get}
use Rattle.std.specs.BinaryHeap.{heap_items}
use Rattle.std.proofs.lemmas.Bool.{false≢true, ltb-true, ltb-false}
use Rattle.std.proofs.lemmas.List.Sorted.{first_le_from_greatest}
use Rattle.std.proofs.lemmas.Option.{none-some, slice_get-get_or, slice_get_within}
use Rattle.cmap_runs.proofs.OpenEnds.{Ascend-top}
use Rattle.cmap_runs.proofs.runs.open.is_in_heap.Goals as goal

none_held : (n : ℕ) → (0 < n → false ≡ true) → n ≡ 0
none_held zero some = refl
none_held (suc n) some = absurd (false≢true (some (omega arith)))

no_last : {A : Type 0} (xs : List A) → None ≡ slice_get xs (length xs - 1) → length xs ≡ 0
no_last [] none = refl
no_last (x ∷ xs) none = absurd (none-some _ (none ∙ slice_get-get_or (x ∷ xs) (length (x ∷ xs) - 1) x (omega arith)))

pub returns-in_default : goal.returns-in_default
returns-in_default c =
    let held = c.args.heap.now.data.ok.0 in let none = none_held _ c.in_default.ensures.variant.1 in
    record {
      heap = λ no. absurd (false≢true no);
      stack = λ no range top k d within. absurd (omega (arith, held, none, within));
      some = λ no. absurd (false≢true no);
      none = λ no empty. sym held ∙ none;
    }

pub returns-in-None : goal.returns-in-None
returns-in-None c =
    let none = no_last c.args.stack.now c.in-None.ensures.value in
    record {
      heap = λ yes range top k d within. absurd (omega (arith, none, within));
      stack = λ no. absurd (false≢true (sym no));
      some = λ yes. omega (arith, c.args.heap.now.data.ok.0, c.in-Some.ensures.variant.0 refl);
      none = λ no. absurd (false≢true (sym no));
    }

pub returns-in-Some-last-clause-heap : goal.returns-in-Some-last-clause-heap
returns-in-Some-last-clause-heap c = λ less range top k d within.
    let on_stack = c.in-Some-last.field-0.now in let in_heap = c.in-Some.field-0.now in
    let last = Ascend-top c.args.stack.now on_stack c.requires.stack (sym c.in-Some-last.ensures.value) in
    let first : in_heap.0 ≤ range.0 = omega (arith, top.greatest 0 in_heap (omega (arith, c.args.heap.now.data.ok.0, c.in-Some.ensures.variant.0 refl)), ap (λ (r : ℕ × ℕ). r.0) c.in-Some.ensures.lookup) in
    let under = ltb-true on_stack.0 in_heap.0 less in
    omega (arith, last.greatest k d within, first, under)

pub returns-in-Some-last-clause-stack : goal.returns-in-Some-last-clause-stack
returns-in-Some-last-clause-stack c = λ no_less range top k d within.
    let on_stack = c.in-Some-last.field-0.now in let in_heap = c.in-Some.field-0.now in
    let above : All (λ (other : ℕ × ℕ). other.0 ≤ in_heap.0) (heap_items c.args.heap.now) =
    first_le_from_greatest nat_cmp in_heap (heap_items c.args.heap.now) (c.in-Some.ensures.greatest c.requires.heap)
    in
    let last = Ascend-top c.args.stack.now on_stack c.requires.stack (sym c.in-Some-last.ensures.value) in
    let at = last.is in
    let over : on_stack.0 ≤ range.0 = omega (arith, top.greatest at.0 on_stack at.1, ap (λ (r : ℕ × ℕ). r.0) at.2) in
    let under = ltb-false on_stack.0 in_heap.0 no_less in
    omega (arith, above k d within, over, under)

pub returns-in-Some-last-clause-some : goal.returns-in-Some-last-clause-some
returns-in-Some-last-clause-some c = λ less. omega (arith, c.args.heap.now.data.ok.0, c.in-Some.ensures.variant.0 refl)

pub returns-in-Some-last-clause-none : goal.returns-in-Some-last-clause-none
returns-in-Some-last-clause-none c = λ no_less none. absurd (omega (arith, slice_get_within c.args.stack.now (length c.args.stack.now - 1) c.in-Some-last.field-0.now (sym c.in-Some-last.ensures.value)))
