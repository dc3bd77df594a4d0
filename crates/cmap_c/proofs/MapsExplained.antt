-- What C is told of a file that has no map, and how the call then ends.
use Rattle.std.proofs.Common.{◌≡◌, ◌≢◌, ◌⊎◌, ◌∙◌, ℕ, List, Option, Ok, Err, Result, arith, inl, inr, refl, sym}
use Rattle.cmap_binary.specs.Bundles.{Bundle}
use Rattle.cmap_values.specs.NamesSeen.{names_seen}
use Rattle.cmap_values.specs.Outcomes.{RefusesWith}
use Rattle.cmap_values.specs.declared.fault.Fault.{Fault}
use Rattle.cmap_values.specs.declared.fault.Fault.TheVariants as fault
use Rattle.cmap_layers.specs.Layers.{Layer}
use Rattle.cmap_load.specs.declared.refusal.Cause.TheVariants as cause
use Rattle.cmap_load.specs.declared.refusal.Refusal.{Refusal}
use Rattle.cmap_c.specs.Endings.{EndsOver, IsExplainedOver, IsKept, IsTold}
use Rattle.cmap_c.specs.Faults.{IsExplained, IsToldFrom, status_of}
use Rattle.cmap_c.specs.NamedFiles.{ExceedsBudgetOver, FitsBudgetOver, HasNoMapOver, IsMapOver, LeadsToFaultOver}
use Rattle.cmap_handles.specs.Statuses.{number}
use Rattle.cmap_c.specs.declared.fault.FaultNumbers.{FaultNumbers}
use Rattle.cmap_c.specs.declared.fault.Told.{Told}
use Rattle.cmap_c.specs.declared.files.BaseFile.{BaseFile}
use Rattle.cmap_handles.specs.declared.status.Status.{Status}
use Rattle.cmap_handles.specs.declared.status.Status.TheVariants.{NoMemory}
use Rattle.cmap_c.proofs.StatusOfCauses.{ends_of, number_of_cause}

neither : {n : ℕ} → (n ≡ 1) ⊎ (n ≡ 3) → (n ≡ 0) ⊎ (n ≡ 2) → ⊥
neither (inl one) (inl is) = omega arith
neither (inl one) (inr is) = omega arith
neither (inr three) (inl is) = omega arith
neither (inr three) (inr is) = omega arith

-- a map is kept, or there is no memory for it
kept : (map : List Layer) (read : Result (List Layer) Status) (status : ℕ) (now : Option (List Layer)) → read ≡ Ok map → IsKept read status now → (status ≡ 0) ⊎ (status ≡ 2)
kept map read status now is done = elim (rw is at done) [ inl there ↦ inl there.0 | inr none ↦ inr none.0 ]

ended : (s : Status) (read : Result (List Layer) Status) (status : ℕ) (now : Option (List Layer)) → read ≡ Err s → IsKept read status now → status ≡ number s
ended s read status now is done = (rw is at done).0

module _ (bundle : Option Bundle) (files : List BaseFile) (bytes : List ℕ) (budget : Option ℕ) where
  -- what C is told of a fault is why there is no map
  pub told : (f : Fault Refusal) (t : Fault Told) → RefusesWith (λ (r : Refusal). r.cause ≢ cause.OverBudget → HasNoMapOver bundle files bytes × FitsBudgetOver bundle files bytes budget) f
      → RefusesWith (λ (r : Refusal). r.cause ≡ cause.OverBudget → ExceedsBudgetOver bundle files bytes budget) f
      → RefusesWith (λ (r : Refusal). LeadsToFaultOver bundle files bytes budget (names_seen r.names.items) r.cause) f → IsToldFrom f t → IsExplainedOver bundle files bytes budget (Err t)
  told fault.Memory t refuses over blames is = rw is (tt, tt)
  told (fault.Refused r) fault.Memory refuses over blames is = (tt, tt)
  told (fault.Refused r) (fault.Refused of) refuses over blames is =
      let same : of.cause ≡ r.cause = is.0 in
      (tt, ((λ other. refuses (λ passes. other (same ∙ passes))), (λ passes. over (sym same ∙ passes)), rw same (names_seen r.names.items, blames, (refl, is.1, is.2, is.3))))

  pub told_ends : (explained : Result (List Layer) (Fault Told)) (old_fault new_fault : FaultNumbers) (old new : List ℕ) (old_needed needed : ℕ) (read : Result (List Layer) Status)
      → IsExplainedOver bundle files bytes budget explained → IsTold explained old_fault new_fault old new old_needed needed read → EndsOver bundle files bytes budget read
  told_ends (Ok map) old_fault new_fault old new old_needed needed read says told = rw told.0 says.0
  told_ends (Err fault.Memory) old_fault new_fault old new old_needed needed read says told = rw told.0 tt
  told_ends (Err (fault.Refused of)) old_fault new_fault old new old_needed needed read says told =
      rw told.0 (ends_of (IsMapOver bundle files bytes) (HasNoMapOver bundle files bytes) (FitsBudgetOver bundle files bytes budget) (ExceedsBudgetOver bundle files bytes budget) ⊥ ⊥ of.cause says.1.0 says.1.1)

  pub explains : (explained : Result (List Layer) (Fault Told)) (old_fault new_fault : FaultNumbers) (old new : List ℕ) (old_needed needed : ℕ) (read : Result (List Layer) Status) (status : ℕ) (now : Option (List Layer))
      → IsExplainedOver bundle files bytes budget explained → IsTold explained old_fault new_fault old new old_needed needed read → IsKept read status now
      → (status ≡ 1) ⊎ (status ≡ 3) → IsExplained (LeadsToFaultOver bundle files bytes budget) new_fault old new needed status
  explains (Ok map) old_fault new_fault old new old_needed needed read status now says told done without = absurd (neither without (kept map read status now told.0 done))
  explains (Err fault.Memory) old_fault new_fault old new old_needed needed read status now says told done without = absurd (neither without (inr (ended NoMemory read status now told.0 done)))
  explains (Err (fault.Refused of)) old_fault new_fault old new old_needed needed read status now says told done without =
      let why = says.1.2 in
      let has = why.2 in
      record {
        path = why.0;
        cause = of.cause;
        leads_there = why.1;
        numbers = rw told.1 has.1;
        lengths = rw told.1 has.2;
        is_status = ended (status_of of.cause) read status now told.0 done;
        put = told.2.0;
        are_put = rw has.3 at told.2.1;
      }

pub unwritten : (explained : Result (List Layer) (Fault Told)) (old_fault new_fault : FaultNumbers) (old new : List ℕ) (old_needed needed : ℕ) (read : Result (List Layer) Status) (status : ℕ) (now : Option (List Layer))
    → IsTold explained old_fault new_fault old new old_needed needed read → IsKept read status now → (status ≡ 0) ⊎ (status ≡ 2) → (new_fault ≡ old_fault) × (new ≡ old) × (needed ≡ old_needed)
unwritten (Ok map) old_fault new_fault old new old_needed needed read status now told done with = (told.1, told.2, told.3)
unwritten (Err fault.Memory) old_fault new_fault old new old_needed needed read status now told done with = (told.1, told.2, told.3)
unwritten (Err (fault.Refused of)) old_fault new_fault old new old_needed needed read status now told done with =
    absurd (neither (number_of_cause of.cause status (ended (status_of of.cause) read status now told.0 done)) with)
