-- What is left of parts, where one more is put first or the first one has less, and then their order changes.
use Rattle.std.proofs.Common.{◌≡◌, ℕ, zero, suc, ◌+◌, ◌-◌, ◌≤◌, List, [], ◌∷◌, ◌++◌, length, set, take, drop, sym, ap, ◌∙◌, subst, arith}
use Rattle.std.specs.Prelude.{All, Some, slice_get}
use Rattle.std.specs.List.{insert}
use Rattle.std.specs.List.Sorted.{IsPermutation}
use Rattle.std.proofs.Math.Seq.{take-append_seam}
use Rattle.std.proofs.lemmas.Option.{none-some, same_Some}
use Rattle.std.proofs.lemmas.List.Sorted.{All-permutation, IsPermutation-insert, sum_by-IsPermutation}
use Rattle.std.proofs.lemmas.List.Sums.{sum_by-insert}
use Rattle.cmap_runs.specs.Parts.{AreLeft, left_of}
use Rattle.cmap_runs.specs.declared.runs.indices.Part.{Part}

-- what is written back to a list, of the same length, is that
pub written_back : {X : Type 0} (xs ys : List X) (n : ℕ) → n ≡ length ys → take n (ys ++ drop (length ys) xs) ≡ ys
written_back xs ys n same = ap (λ k. take k (ys ++ drop (length ys) xs)) same ∙ take-append_seam ys (drop (length ys) xs)

with_first : (parts : List Part) (count : ℕ) (part : Part) → All (λ part. (part.next ≤ part.end) × (part.end ≤ count)) parts → part.next ≤ part.end → part.end ≤ count
    → All (λ part. (part.next ≤ part.end) × (part.end ≤ count)) (part ∷ parts)
with_first parts count part each begins ends zero d lt = (begins, ends)
with_first parts count part each begins ends (suc k) d lt = each k d (omega (arith, lt))

pub each_with_one : (parts after : List Part) (count : ℕ) (part : Part) → All (λ part. (part.next ≤ part.end) × (part.end ≤ count)) parts → part.next ≤ part.end → part.end ≤ count
    → IsPermutation (part ∷ parts) after → All (λ part. (part.next ≤ part.end) × (part.end ≤ count)) after
each_with_one parts after count part each begins ends moved =
    All-permutation (λ part. (part.next ≤ part.end) × (part.end ≤ count)) (part ∷ parts) after moved (with_first parts count part each begins ends)

-- how many are left with one part more
left_with : (part : Part) (parts : List Part) → left_of (part ∷ parts) ≡ left_of parts + (part.end - part.next)
left_with part parts =
    sym (sum_by-IsPermutation (λ (part : Part). part.end - part.next) (part ∷ parts) (insert parts 0 part) (IsPermutation-insert parts 0 part))
    ∙ sum_by-insert (λ (part : Part). part.end - part.next) parts 0 part

pub left_with_one : (parts after : List Part) (part : Part) → IsPermutation (part ∷ parts) after → left_of after ≡ left_of parts + (part.end - part.next)
left_with_one parts after part moved = sum_by-IsPermutation (λ (part : Part). part.end - part.next) (part ∷ parts) after moved ∙ left_with part parts

pub first_left : (part : Part) (others : List Part) → part.end - part.next ≤ left_of (part ∷ others)
first_left part others = omega (arith, left_with part others)

-- the first part goes on at `next`
pub record GoesOn (parts after : List Part) (count first next : ℕ) : Type 0 where
  pub left : AreLeft after count
  pub fewer : left_of after + (next - first) ≡ left_of parts

pub goes_on : (old part : Part) (others after : List Part) (count next : ℕ) → AreLeft (old ∷ others) count → part.next ≡ next → part.end ≡ old.end
    → old.next ≤ next → next ≤ old.end → IsPermutation (part ∷ others) after → GoesOn (old ∷ others) after count old.next next
goes_on old part others after count next left next_is same begins ends moved =
    let first = left.each 0 old (omega arith) in
    let others_left : All (λ part. (part.next ≤ part.end) × (part.end ≤ count)) others = λ k d lt. left.each (suc k) d (omega (arith, lt)) in
    let sum = left_with old others in let now = left_with_one others after part moved in
    record {
      left = record {
        each = each_with_one others after count part others_left (omega arith) (omega (arith, first.1)) moved;
        few = omega (arith, left.few, sum, now);
      };
      fewer = omega (arith, sum, now, first.0);
    }

pub one_part : (part : Part) → left_of (part ∷ []) ≡ part.end - part.next
one_part part = omega (arith, left_with part [])

pub two_swapped : (first second : Part) (others : List Part) → IsPermutation (first ∷ second ∷ others) (second ∷ first ∷ others)
two_swapped first second others = IsPermutation-insert (second ∷ others) 1 first

-- the first two change places
pub first_swapped : (first other : Part) (others : List Part) → slice_get others 0 ≡ Some other → IsPermutation (first ∷ others) (other ∷ set others 0 first)
first_swapped first other [] at = absurd (none-some other at)
first_swapped first other (second ∷ others) at =
    subst (λ other. IsPermutation (first ∷ second ∷ others) (other ∷ first ∷ others)) (same_Some second other at) (two_swapped first second others)
