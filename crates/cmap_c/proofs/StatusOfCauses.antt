-- How a call ends for which a file is refused, and what its status says.
use Rattle.std.proofs.Common.{◌≡◌, ◌≢◌, ◌⊎◌, ℕ, List, Err, refl, inl, inr}
use Rattle.cmap_values.specs.Outcomes.{RefusesWith}
use Rattle.cmap_values.specs.declared.fault.Fault.{Fault}
use Rattle.cmap_values.specs.declared.fault.Fault.TheVariants as fault
use Rattle.cmap_layers.specs.Layers.{Layer}
use Rattle.cmap_load.specs.declared.refusal.Cause.{Cause}
use Rattle.cmap_load.specs.declared.refusal.Cause.TheVariants as cause
use Rattle.cmap_load.specs.declared.refusal.Refusal.{Refusal}
use Rattle.cmap_c.specs.Endings.{Ends}
use Rattle.cmap_c.specs.Faults.{ending_of, status_of}
use Rattle.cmap_handles.specs.Statuses.{number}
use Rattle.cmap_handles.specs.declared.status.Status.{Status}

module _ (IsMap : List Layer → Type 0) (none fits over invalid absent : Type 0) where
  pub ends_of : (c : Cause) → (c ≢ cause.OverBudget → none × fits) → (c ≡ cause.OverBudget → over) → Ends IsMap none fits over invalid absent (Err (status_of c))
  ends_of (cause.Malformed stop) refuses passes = refuses (λ is. cc)
  ends_of cause.NoFile refuses passes = refuses (λ is. cc)
  ends_of cause.ChainLength refuses passes = refuses (λ is. cc)
  ends_of cause.OverBudget refuses passes = passes refl

  pub refused : (f : Fault Refusal) (s : Status) → s ≡ ending_of f
      → RefusesWith (λ (r : Refusal). r.cause ≢ cause.OverBudget → none × fits) f → RefusesWith (λ (r : Refusal). r.cause ≡ cause.OverBudget → over) f → Ends IsMap none fits over invalid absent (Err s)
  refused (fault.Refused refusal) s ended refuses passes = rw ended (ends_of refusal.cause refuses passes)
  refused fault.Memory s ended refuses passes = rw ended tt

-- the number is one of two
pub number_of_cause : (c : Cause) (n : ℕ) → n ≡ number (status_of c) → (n ≡ 1) ⊎ (n ≡ 3)
number_of_cause (cause.Malformed stop) n is = inl is
number_of_cause cause.NoFile n is = inl is
number_of_cause cause.ChainLength n is = inl is
number_of_cause cause.OverBudget n is = inr is
