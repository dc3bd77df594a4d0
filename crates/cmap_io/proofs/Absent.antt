-- A byte that a name doesn't have.
use Rattle.std.proofs.Common.{◌≡◌, ◌↔◌, ℕ, List, [], ◌∷◌, All, false, nat_eq, arith, slice_index_or}
use Rattle.std.specs.List.{list_any}
use Rattle.std.proofs.lemmas.Bool.{or_parts}
use Rattle.std.proofs.lemmas.List.Elements.{All-nil, All-cons}
use Rattle.std.proofs.lemmas.List.Folds.{list_any_none}

-- what a test of two numbers says
apart : (x q : ℕ) → nat_eq x q ≡ false → ¬ (x ≡ q)
apart x q test is = grind arith

differs : (x q : ℕ) → ¬ (x ≡ q) → nat_eq x q ≡ false
differs x q other = grind arith

absent_from : (q : ℕ) → (xs : List ℕ) → list_any (λ y. nat_eq y q) xs ≡ false → All (λ byte. ¬ (byte ≡ q)) xs
absent_from q [] none = All-nil (λ byte. ¬ (byte ≡ q))
absent_from q (x ∷ xs) none =
    let parts = or_parts (nat_eq x q) (list_any (λ y. nat_eq y q) xs) none in
    All-cons (λ byte. ¬ (byte ≡ q)) x xs (apart x q parts.0) (absent_from q xs parts.1)

-- a byte that is looked for in vain isn't in the name
pub absent : (q : ℕ) → (xs : List ℕ) → (list_any (λ y. nat_eq y q) xs ≡ false) ↔ All (λ byte. ¬ (byte ≡ q)) xs
absent q xs = (absent_from q xs, λ all. list_any_none (λ y. nat_eq y q) xs (λ k d below. differs (slice_index_or xs k d) q (all k d below)))
