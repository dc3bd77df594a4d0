-- Open ranges, of which some lie on a stack and others in a heap.
use Rattle.std.proofs.Common.{◌≡◌, ℕ, ◌-◌, ◌<◌, ◌≤◌, List, [], ◌∷◌, ◌++◌, length, get_or, Option, sym, ap, ◌∙◌, subst, arith, length-append}
use Rattle.std.specs.Prelude.{Some, None, All, IfSome, IsSome, slice_get}
use Rattle.std.specs.List.Sorted.{IsPermutation}
use Rattle.std.proofs.lemmas.Bool.{false≢true}
use Rattle.std.proofs.lemmas.List.{append_assoc, get_or_append_left}
use Rattle.std.proofs.lemmas.List.Elements.{All-append, Contains-append_left, Contains-append_right}
use Rattle.std.proofs.lemmas.List.Sorted.{IsNonDecreasingBy-push, IsPermutation-append_left, IsPermutation-append_right, IsPermutation-sym, IsPermutation-to_front, IsPermutation-trans}
use Rattle.std.proofs.lemmas.Option.{get_or_from_slice_get, slice_get_within}
use Rattle.cmap_runs.specs.OpenRanges.{Ascend, ClosesTop, IsTop}

-- the last of ascending indices is the greatest
pub Ascend-top : (stack : List (ℕ × ℕ)) (top : ℕ × ℕ) → Ascend stack → slice_get stack (length stack - 1) ≡ Some top → IsTop stack top
Ascend-top stack top ascend is =
    let end = length stack - 1 in let lt : end < length stack = slice_get_within stack end top is in
    record {
      is = (end, lt, get_or_from_slice_get stack end top top is);
      greatest = λ k d within. omega (arith, ascend k end d (omega arith) lt, ap (λ (range : ℕ × ℕ). range.0) (get_or_from_slice_get stack end top d is));
    }

pub Ascend-front : (left rest : List (ℕ × ℕ)) → Ascend (left ++ rest) → Ascend left
Ascend-front left rest ascend i j d le within =
    let first = ap (λ (range : ℕ × ℕ). range.0) (get_or_append_left left rest d i (omega arith)) in
    let second = ap (λ (range : ℕ × ℕ). range.0) (get_or_append_left left rest d j within) in
    omega (arith, ascend i j d le (omega (arith, length-append left rest)), first, second)

-- what is taken out of a heap is what was seen on top of it
pub taken_top : (heap left : List (ℕ × ℕ)) (top : ℕ × ℕ) (taken : Option (ℕ × ℕ)) → 0 < length heap → top ≡ get_or heap 0 top → IsSome taken → IfSome taken (λ x. x ≡ get_or heap 0 x) → IfSome taken (λ x. IsPermutation heap (x ∷ left)) → IsPermutation heap (top ∷ left)
taken_top [] left top taken filled seen some first moved = absurd (omega (arith, filled))
taken_top (x ∷ heap) left top None filled seen some first moved = absurd (false≢true some)
taken_top (x ∷ heap) left top (Some y) filled seen some first moved = subst (λ z. IsPermutation (x ∷ heap) (z ∷ left)) (first ∙ sym seen) moved

pub Ascend-push : (stack : List (ℕ × ℕ)) (range : ℕ × ℕ) → Ascend stack → ((d : ℕ × ℕ) → 0 < length stack → (get_or stack (length stack - 1) d).0 ≤ range.0) → Ascend (stack ++ range ∷ [])
Ascend-push stack range ascend last = IsNonDecreasingBy-push (λ (range : ℕ × ℕ). range.0) stack range ascend last

-- one more on the stack, or in the heap, is one more of all
pub one_more_on_stack : (stack heap : List (ℕ × ℕ)) (range : ℕ × ℕ) → IsPermutation (range ∷ (stack ++ heap)) ((stack ++ range ∷ []) ++ heap)
one_more_on_stack stack heap range =
    IsPermutation-sym _ _ (IsPermutation-append_left heap (stack ++ range ∷ []) (range ∷ stack) (IsPermutation-to_front stack range))

pub one_more_in_heap : (stack heap after : List (ℕ × ℕ)) (range : ℕ × ℕ) → IsPermutation (range ∷ heap) after → IsPermutation (range ∷ (stack ++ heap)) (stack ++ after)
one_more_in_heap stack heap after range more =
    IsPermutation-trans (range ∷ (stack ++ heap)) ((stack ++ range ∷ []) ++ heap) (stack ++ after) (one_more_on_stack stack heap range)
    (subst (λ xs. IsPermutation xs (stack ++ after)) (sym (append_assoc stack (range ∷ []) heap)) (IsPermutation-append_right stack (range ∷ heap) after more))

-- one that is closed on the stack, or in the heap, is one of all
pub ClosesTop-stack : (stack left heap : List (ℕ × ℕ)) (code : ℕ) (top : Option (ℕ × ℕ)) → ClosesTop stack left code top
    → (length stack ≡ 0 → length heap ≡ 0) → ((range : ℕ × ℕ) → IsTop stack range → All (λ other. other.0 ≤ range.0) heap)
    → ClosesTop (stack ++ heap) (left ++ heap) code top
ClosesTop-stack stack left heap code None closes none above = (omega (arith, length-append stack heap, closes.0, none closes.0), ap (λ xs. xs ++ heap) closes.1)
ClosesTop-stack stack left heap code (Some range) closes none above = record {
  top = record {
    is = Contains-append_left stack heap range closes.top.is;
    greatest = All-append (λ (other : ℕ × ℕ). other.0 ≤ range.0) stack heap closes.top.greatest (above range closes.top);
  };
  stays = λ le. ap (λ xs. xs ++ heap) (closes.stays le);
  closed = λ lt. IsPermutation-append_left heap stack (range ∷ left) (closes.closed lt);
}

pub ClosesTop-heap : (stack heap left : List (ℕ × ℕ)) (code : ℕ) (top : Option (ℕ × ℕ)) → ClosesTop heap left code top
    → 0 < length heap → ((range : ℕ × ℕ) → IsTop heap range → All (λ other. other.0 ≤ range.0) stack)
    → ClosesTop (stack ++ heap) (stack ++ left) code top
ClosesTop-heap stack heap left code None closes some above = absurd (omega (arith, closes.0, some))
ClosesTop-heap stack heap left code (Some range) closes some above = record {
  top = record {
    is = Contains-append_right stack heap range closes.top.is;
    greatest = All-append (λ (other : ℕ × ℕ). other.0 ≤ range.0) stack heap (above range closes.top) closes.top.greatest;
  };
  stays = λ le. ap (λ xs. stack ++ xs) (closes.stays le);
  closed = λ lt. IsPermutation-sym _ _ (one_more_in_heap stack left heap range (IsPermutation-sym heap (range ∷ left) (closes.closed lt)));
}
