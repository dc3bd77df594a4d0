-- Columns of spans, taken one after another.
use Rattle.std.proofs.Common.{◌≡◌, ℕ, ◌+◌, ◌-◌, ◌<◌, ◌≤◌, List, [], ◌∷◌, ◌++◌, length, drop, get_or, map, ap, ◌∙◌, subst, sym}
use Rattle.std.proofs.lemmas.List.{append_assoc, append-nil, drop_all, drop_more}
use Rattle.cmap_runs.specs.Ranges.{Span}
use Rattle.cmap_binary.specs.BinaryEntries.{ranges}
use Rattle.cmap_binary_writer.specs.Held.{AreInOrder, AreShaped, counts_of, deltas_of}

module _ {X : Type 0} (span : X → Span) (xs : List X) (i : ℕ) where
  module _ (x : X) (inside : i < length xs) (is : x ≡ get_or xs i x) where
    next_is : drop i xs ≡ x ∷ drop (i + 1) xs
    next_is = drop_more xs i x inside ∙ ap (λ y. y ∷ drop (i + 1) xs) (sym is)

    -- the next one is a range of two codes or more, and so are those after it
    pub next_shaped : AreShaped ranges (map span (drop i xs)) → AreShaped ranges (map span (x ∷ drop (i + 1) xs))
    next_shaped shaped = subst (λ ys. AreShaped ranges (map span ys)) next_is shaped

    -- its count follows those before it
    pub count_more : (count : ℕ) (old new : List ℕ) → count ≡ (span x).end - (span x).start - 1 → new ≡ old ++ count ∷ [] → old ++ counts_of (map span (drop i xs)) ≡ counts_of (map span xs) → new ++ counts_of (map span (drop (i + 1) xs)) ≡ counts_of (map span xs)
    count_more count old new count_is more before =
        let rest = counts_of (map span (drop (i + 1) xs)) in
        ap (λ ns. ns ++ rest) more ∙ append_assoc old (count ∷ []) rest ∙ ap (λ n. old ++ n ∷ rest) count_is ∙ ap (λ ys. old ++ counts_of (map span ys)) (sym next_is) ∙ before

    -- the next one comes after those before it
    pub next_ordered : (base : ℕ) → AreInOrder base (map span (drop i xs)) → AreInOrder base (map span (x ∷ drop (i + 1) xs))
    next_ordered base ordered = subst (λ ys. AreInOrder base (map span ys)) next_is ordered

    -- and those after it come after it
    pub ordered_more : (base next : ℕ) → next ≡ (span x).end + 1 → AreInOrder base (map span (drop i xs)) → AreInOrder next (map span (drop (i + 1) xs))
    ordered_more base next is ordered = subst (λ n. AreInOrder n (map span (drop (i + 1) xs))) (sym is) (next_ordered base ordered).3

    -- its delta follows those before it
    pub delta_more : (base next delta : ℕ) (old new : List ℕ) → next ≡ (span x).end + 1 → delta ≡ (span x).start - base → new ≡ old ++ delta ∷ [] → old ++ deltas_of base (map span (drop i xs)) ≡ deltas_of 0 (map span xs) → new ++ deltas_of next (map span (drop (i + 1) xs)) ≡ deltas_of 0 (map span xs)
    delta_more base next delta old new next_base delta_is more before =
        let later = map span (drop (i + 1) xs) in
        ap (λ ns. ns ++ deltas_of next later) more ∙ append_assoc old (delta ∷ []) (deltas_of next later) ∙ ap (λ n. old ++ n ∷ deltas_of next later) delta_is ∙ ap (λ n. old ++ ((span x).start - base) ∷ deltas_of n later) next_base ∙ ap (λ ys. old ++ deltas_of base (map span ys)) (sym next_is) ∙ before

  -- after the last one the deltas are all there
  pub deltas_done : (base : ℕ) (now : List ℕ) → length xs ≤ i → now ++ deltas_of base (map span (drop i xs)) ≡ deltas_of 0 (map span xs) → now ≡ deltas_of 0 (map span xs)
  deltas_done base now past before = sym (append-nil now) ∙ ap (λ ys. now ++ deltas_of base (map span ys)) (sym (drop_all i xs past)) ∙ before

  -- so are the counts
  pub counts_done : (now : List ℕ) → length xs ≤ i → now ++ counts_of (map span (drop i xs)) ≡ counts_of (map span xs) → now ≡ counts_of (map span xs)
  counts_done now past before = sym (append-nil now) ∙ ap (λ ys. now ++ counts_of (map span ys)) (sym (drop_all i xs past)) ∙ before
