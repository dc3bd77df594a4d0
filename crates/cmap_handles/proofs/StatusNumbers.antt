-- The number by which a call ends says which status it is.
use Rattle.std.proofs.Common.{◌≡◌, ◌∙◌, ◌⊎◌, ℕ, List, [], ◌∷◌, ap, arith, get_or, inl, inr, nat_eq, refl, sym, true, false, true≢false}
use Rattle.std.proofs.lemmas.Bool.Decides.{nat_tests}
use Rattle.cmap_handles.specs.Rooms.{IsPut}
use Rattle.cmap_handles.specs.Statuses.{number}
use Rattle.cmap_handles.specs.declared.status.Status.{Status}
use Rattle.cmap_handles.specs.declared.status.Status.TheVariants.{Done, Refused, NoMemory, OverBudget, NotABundle, Absent, NoRoom}

abbrev numbered : ℕ → Status
numbered n = get_or (Done ∷ Refused ∷ NoMemory ∷ OverBudget ∷ NotABundle ∷ Absent ∷ NoRoom ∷ []) n NoRoom

numbered_number : (s : Status) → numbered (number s) ≡ s
numbered_number Done = refl
numbered_number Refused = refl
numbered_number NoMemory = refl
numbered_number OverBudget = refl
numbered_number NotABundle = refl
numbered_number Absent = refl
numbered_number NoRoom = refl

nat_eq-self : (n : ℕ) → nat_eq n n ≡ true
nat_eq-self n = grind (arith, nat_tests)

pub number-injective : (s t : Status) → number s ≡ number t → s ≡ t
number-injective s t same = sym (numbered_number s) ∙ ap numbered same ∙ numbered_number t

-- a call that ends so has ended in no other way
pub not_both : {n : ℕ} (s t : Status) → nat_eq (number s) (number t) ≡ false → n ≡ number s → n ≡ number t → ⊥
not_both s t differ is other = true≢false (sym (nat_eq-self (number s)) ∙ ap (nat_eq (number s)) (sym is ∙ other) ∙ differ)

pub neither : {n : ℕ} (s t u : Status) → nat_eq (number s) (number t) ≡ false → nat_eq (number s) (number u) ≡ false → n ≡ number s → (n ≡ number t) ⊎ (n ≡ number u) → ⊥
neither s t u differ also is (inl other) = not_both s t differ is other
neither s t u differ also is (inr other) = not_both s u also is other

-- a call that puts ends so
module _ {A : Type 0} (items old new : List A) (needed status : ℕ) (put : IsPut items old new needed status) where
  pub put_ends : (status ≡ number Done) ⊎ (status ≡ number NoRoom)
  put_ends = elim put.1 [ inl all ↦ inl all.1 | inr none ↦ inr none.1 ]

  pub put_no_memory : status ≡ number NoMemory → ⊥
  put_no_memory memory = neither NoMemory Done NoRoom refl refl memory put_ends

  pub put_not_absent : status ≡ number Absent → ⊥
  put_not_absent absent = neither Absent Done NoRoom refl refl absent put_ends
