-- What it says of a file, and of a use, that reading below it fails.
use Rattle.std.proofs.Common.{◌≡◌, ℕ, suc, refl, sym, subst, List, [], ◌∷◌, inr}
use Rattle.std.specs.Prelude.{◌⊎◌, Option, Some}
use Rattle.cmap_values.specs.Files.{File}
use Rattle.cmap_values.specs.Only.{IsOnly}
use Rattle.cmap_binary.specs.Bundles.{PrefixTables}
use Rattle.cmap_load.specs.BytesSpent.{About, Refuses, GoesOver, GoesOverAt, of_file, of_use}
use Rattle.cmap_load.specs.Layers.{Means}
use Rattle.cmap_load.specs.Refusals.{Fails, HasLayers, IsFault, IsFaultWithin, IsMissing, IsUseFault, IsUseFaultWithin, IsUsedAfter}
use Rattle.cmap_load.specs.declared.refusal.Cause.{Cause}
use Rattle.cmap_load.specs.declared.refusal.Cause.TheVariants.{Malformed, NoFile, ChainLength, OverBudget}

pub fails_as : {K L : Type 0} {a : About K} {b : About L} {k : K} {l : L} {budget left start : Option ℕ} → (Refuses a k budget left → Refuses b l start left) → (GoesOver a k budget → GoesOver b l start) → (cause : Cause) → Fails a k budget left cause → Fails b l start left cause
fails_as refuses over (Malformed stop) fails = refuses fails
fails_as refuses over NoFile fails = refuses fails
fails_as refuses over ChainLength fails = refuses fails
fails_as refuses over OverBudget fails = over fails

module _ (tables : Option PrefixTables) (answer : List ℕ → Option (List ℕ) → Type 0) where
  -- what leads from the file of a use leads from the use
  module _ (budget : Option ℕ) (below n : ℕ) (name base : List ℕ) (room : suc n ≡ below) (said : answer name (Some base)) where
    of_file_used : (cause : Cause) (names : List (List ℕ)) → IsFault tables answer (suc n) base names cause → IsUseFault tables answer below name (name ∷ names) cause
    of_file_used cause names fault = (refl, inr (base, said, subst (λ m. IsFault tables answer m base names cause) room fault))

    pub leads_use : ((names : List (List ℕ)) → GoesOverAt (of_file (Means tables) answer (suc n)) base budget names → GoesOverAt (of_use (Means tables) answer below) name budget (name ∷ names))
        → (cause : Cause) (names : List (List ℕ)) → IsFaultWithin tables answer budget (suc n) base names cause → IsUseFaultWithin tables answer budget below name (name ∷ names) cause
    leads_use over (Malformed stop) names fault = of_file_used (Malformed stop) names fault
    leads_use over NoFile names fault = of_file_used NoFile names fault
    leads_use over ChainLength names fault = of_file_used ChainLength names fault
    leads_use over OverBudget names fault = over names fault

  -- what leads from a use leads from the file that has it
  module _ (budget left : Option ℕ) (below : ℕ) (bytes : List ℕ) (file : File) (name : List ℕ) (meant : IsOnly (Means tables bytes) file) (uses : IsUsedAfter (HasLayers tables answer below) file.uses name) where
    of_use_here : (cause : Cause) (names : List (List ℕ)) → IsUseFault tables answer below name names cause → IsFault tables answer (suc below) bytes names cause
    of_use_here cause [] fault = absurd fault
    of_use_here cause (first ∷ names) (first_is, fault) = (
      file,
      meant,
      subst (IsUsedAfter (HasLayers tables answer below) file.uses) (sym first_is) uses,
      subst (λ n. (IsMissing tables answer below n cause × (names ≡ [])) ⊎ ((base : List ℕ) × answer n (Some base) × IsFault tables answer below base names cause)) (sym first_is) fault,
    )

    pub leads_file : ((names : List (List ℕ)) → GoesOverAt (of_use (Means tables) answer below) name left names → GoesOverAt (of_file (Means tables) answer (suc below)) bytes budget names)
        → (cause : Cause) (names : List (List ℕ)) → IsUseFaultWithin tables answer left below name names cause → IsFaultWithin tables answer budget (suc below) bytes names cause
    leads_file over (Malformed stop) names fault = of_use_here (Malformed stop) names fault
    leads_file over NoFile names fault = of_use_here NoFile names fault
    leads_file over ChainLength names fault = of_use_here ChainLength names fault
    leads_file over OverBudget names fault = over names fault
