-- No more names lead to a fault than files may stand in a chain.
use Rattle.std.proofs.Common.{◌≡◌, ℕ, zero, suc, ◌≤◌, List, [], ◌∷◌, length, Option, ap, arith, inl, inr}
use Rattle.cmap_values.specs.Files.{File}
use Rattle.cmap_binary.specs.Bundles.{PrefixTables}
use Rattle.cmap_load.specs.Budgets.{Trail, OpensFirst, OpensUse, OpensUseFirst, OpensEachFirst, Opens}
use Rattle.cmap_load.specs.Layers.{Means}
use Rattle.cmap_load.specs.Refusals.{IsFault, IsFaultWithin}
use Rattle.cmap_load.specs.declared.refusal.Cause.{Cause}
use Rattle.cmap_load.specs.declared.refusal.Cause.TheVariants.{Malformed, NoFile, ChainLength, OverBudget}

module _ (answer : List ℕ → Option (List ℕ) → Type 0) (opens : List ℕ → Trail → Type 0) (opens_first : List ℕ → List (List ℕ) → List ℕ → Type 0) (most : ℕ)
    (few : (bytes : List ℕ) (names : List (List ℕ)) (lengths : List ℕ) → opens_first bytes names lengths → length names ≤ most) where
  use_few : (room : ℕ) (name : List ℕ) (names : List (List ℕ)) (lengths : List ℕ) → OpensUseFirst answer opens_first room name names lengths → length names ≤ suc most
  use_few zero name names lengths h = absurd h
  use_few (suc room) name names lengths (below, is, (base, said, first)) =
      let e : length names ≡ length (name ∷ below) = ap length is in let less = few base below lengths first in omega (arith, e, less)

  each_few : (room : ℕ) (uses : List (List ℕ)) (names : List (List ℕ)) (lengths : List ℕ) → OpensEachFirst opens (OpensUseFirst answer opens_first room) uses names lengths → length names ≤ suc most
  each_few room [] names lengths h = absurd h
  each_few room (used ∷ uses) names lengths h = elim h [ inl here ↦ use_few room used names lengths here | inr (first, rest, _, later, _) ↦ each_few room uses names rest later ]

module _ (means : List ℕ → File → Type 0) (answer : List ℕ → Option (List ℕ) → Type 0) where
  OpensFirst-few : (most : ℕ) (bytes : List ℕ) (names : List (List ℕ)) (lengths : List ℕ) → OpensFirst means answer most bytes names lengths → length names ≤ most
  OpensFirst-few zero bytes names lengths h = absurd h
  OpensFirst-few (suc most) bytes names lengths h = elim h [
    | inl (none, _) ↦ (let e : length names ≡ 0 = ap length none in omega (arith, e))
    | inr (file, rest, _, first, _) ↦ each_few answer (OpensUse answer (Opens means answer most) most) (OpensFirst means answer most) most (OpensFirst-few most) most file.uses names rest first
  ]

module _ (tables : Option PrefixTables) (answer : List ℕ → Option (List ℕ) → Type 0) where
  IsFault-few : (most : ℕ) (bytes : List ℕ) (names : List (List ℕ)) (cause : Cause) → IsFault tables answer most bytes names cause → length names ≤ most
  IsFault-few zero bytes names cause h = absurd h
  IsFault-few (suc most) bytes [] cause h = omega arith
  IsFault-few (suc most) bytes (name ∷ names) cause (file, meant, uses, ends) = elim ends [
    | inl (_, none) ↦ (let e : length names ≡ 0 = ap length none in omega (arith, e))
    | inr (base, _, fault) ↦ (let less = IsFault-few most base names cause fault in omega (arith, less))
  ]

  pub IsFaultWithin-few : (budget : Option ℕ) (most : ℕ) (bytes : List ℕ) (names : List (List ℕ)) (cause : Cause) → IsFaultWithin tables answer budget most bytes names cause → length names ≤ most
  IsFaultWithin-few budget most bytes names (Malformed stop) h = IsFault-few most bytes names (Malformed stop) h
  IsFaultWithin-few budget most bytes names NoFile h = IsFault-few most bytes names NoFile h
  IsFaultWithin-few budget most bytes names ChainLength h = IsFault-few most bytes names ChainLength h
  IsFaultWithin-few budget most bytes names OverBudget h = OpensFirst-few (Means tables) answer most bytes names _ h.opened
