-- What a search finds among words in the order of their symbols.
use Rattle.std.proofs.Common.{◌≡◌, ℕ, ◌<◌, ◌≤◌, List, Equal, Greater, Less, length, get_or, inl, inr, sym, arith}
use Rattle.std.specs.List.{All, HoldsAt}
use Rattle.std.specs.List.Sorted.{IsNonDecreasingBy, IsPartitionPoint}
use Rattle.std.specs.Ordering.{nat_cmp, ordering_index}
use Rattle.std.proofs.lemmas.Bool.{cases_lt}
use Rattle.std.proofs.lemmas.Bool.Decides.{nat_tests}
use Rattle.std.proofs.lemmas.Cmp.{ranked}

module _ {X : Type 0} (key : X → ℕ) (xs : List X) (n : ℕ) where
  comparisons_rise : IsNonDecreasingBy key xs → IsNonDecreasingBy (λ x. ordering_index (nat_cmp (key x) n)) xs
  comparisons_rise up i j d le inside = let rise = up i j d le inside in grind (arith, nat_tests)

  pub found : (i : ℕ) (d : X) → HoldsAt (λ x. nat_cmp (key x) n ≡ Equal) xs i → key (get_or xs i d) ≡ n
  found i d equal = ranked _ n _ (sym (equal d))

  pub absent : (at : ℕ) → at ≤ length xs → IsNonDecreasingBy key xs → (IsNonDecreasingBy (λ x. ordering_index (nat_cmp (key x) n)) xs → IsPartitionPoint (λ x. nat_cmp (key x) n ≡ Less) (λ x. nat_cmp (key x) n ≡ Greater) xs at) → All (λ x. key x ≡ n → ⊥) xs
  absent at most up parted i d inside e =
      let parts = parted (comparisons_rise up) in
      elim (cases_lt i at) [
        | inl before ↦ let less : key (get_or xs i d) < n = ranked _ n _ (sym (parts.0 i d (omega arith) before)) in absurd (omega (arith, less, e))
        | inr after ↦ let more : n < key (get_or xs i d) = ranked _ n _ (sym (parts.1 i d after inside)) in absurd (omega (arith, more, e))
      ]
