use Rattle.std.proofs.Common.{◌≡◌, ◌≤◌, ◌∙◌, ap, length, refl, subst, sym}
use Rattle.std.specs.List.{concat}
use Rattle.cmap_values.specs.NamesSeen.{names_seen}
use Rattle.cmap_values.specs.Outcomes.{RefusesWith}
use Rattle.cmap_values.specs.declared.fault.Fault.{Fault}
use Rattle.cmap_values.specs.declared.fault.Fault.TheVariants as fault
use Rattle.cmap_load.specs.declared.refusal.Refusal.{Refusal}
use Rattle.cmap_c.specs.Faults.{HasNames, IsToldFrom, IsToldOf}
use Rattle.cmap_c.specs.declared.fault.Told.{Told}
use Rattle.cmap_c.proofs.fault.Told.of.Goals as goal

module _ (f : Fault Refusal) (refusal : Refusal) (is : f ≡ fault.Refused refusal) where
  told : (t : Told) → IsToldOf (names_seen refusal.names.items) refusal.cause t → IsToldFrom f (fault.Refused t)
  told t of = subst (λ g. IsToldFrom g (fault.Refused t)) (sym is) of

  untold : IsToldFrom f fault.Memory
  untold = subst (λ g. IsToldFrom g fault.Memory) (sym is) tt

  few : RefusesWith (λ (r : Refusal). length r.names.items ≤ 16) f → length refusal.names.items ≤ 16
  few held = subst (λ g. RefusesWith (λ (r : Refusal). length r.names.items ≤ 16) g) is held

pub returns-in_default : goal.returns-in_default
returns-in_default c = subst (λ g. IsToldFrom g fault.Memory) (sym c.in_default.is) refl

pub of-requires : goal.of-requires
of-requires c = subst (λ names. length names ≤ 16) (sym c.deref-in-Ok.ensures.value) (few c.args.fault c.in-Refused.refusal c.in-Refused.is c.requires)

pub returns-in-Ok : goal.returns-in-Ok
returns-in-Ok c = told c.args.fault c.in-Refused.refusal c.in-Refused.is _
    (refl, c.of.ensures.numbers, subst (λ names. HasNames c.of.result (names_seen names)) c.deref-in-Ok.ensures.value c.of.ensures.names, c.in-Ok.ensures ∙ ap (λ names. concat (names_seen names)) c.deref.ensures.value)

pub returns : goal.returns
returns c = untold c.args.fault c.in-Refused.refusal c.in-Refused.is
