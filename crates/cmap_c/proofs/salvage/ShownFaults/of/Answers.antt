use Rattle.std.proofs.Common.{◌≡◌, ◌∙◌, ◌++◌, ◌+◌, ◌<◌, ◌≤◌, ℕ, List, [], ◌∷◌, add-one, ap, append_assoc, drop, drop-cons, get_or, length, refl, subst, sym}
use Rattle.std.specs.Borrow.{Bor}
use Rattle.std.specs.List.{concat}
use Rattle.std.proofs.lemmas.Result.{IfOk-from_err}
use Rattle.cmap_values.specs.NamesSeen.{names_seen}
use Rattle.cmap_load.specs.SalvageSeen.{fault_seen, faults_seen}
use Rattle.cmap_load.specs.declared.refusal.Refusal.{Refusal}
use Rattle.cmap_c.specs.Faults.{fault_numbers}
use Rattle.cmap_c.specs.Salvaged.{names_joined, numbers_of_all}
use Rattle.cmap_c.specs.declared.fault.FaultNumbers.{FaultNumbers}
use Rattle.cmap_handles.proofs.FilledRows.{all_left}
use Rattle.cmap_c.proofs.salvage.ShownFaults.of.Goals as goal

module _ (faults : List Refusal) (i : ℕ) (fault : Refusal) (within : i < length faults) (is : fault ≡ get_or faults i fault) where
  left : faults_seen (drop i faults) ≡ fault_seen fault ∷ faults_seen (drop (i + 1) faults)
  left = rw (drop-cons faults i fault within, ← is, add-one) refl

  next_numbers : (old new all : List FaultNumbers) (numbers : FaultNumbers) (names : List (Bor (List ℕ))) → new ≡ old ++ (numbers ∷ []) → numbers ≡ fault_numbers (names_seen names) fault.cause → names ≡ fault.names.items
      → old ++ numbers_of_all (faults_seen (drop i faults)) ≡ all → new ++ numbers_of_all (faults_seen (drop (i + 1) faults)) ≡ all
  next_numbers old new all numbers names pushed whole same before =
      let rest : List FaultNumbers = numbers_of_all (faults_seen (drop (i + 1) faults)) in
      ap (λ made. made ++ rest) pushed ∙ append_assoc old (numbers ∷ []) rest ∙ ap (λ n. old ++ (n ∷ rest)) (whole ∙ ap (λ given. fault_numbers (names_seen given) fault.cause) same)
      ∙ ap (λ given. old ++ numbers_of_all given) (sym left) ∙ before

  next_names : (old new all : List ℕ) (names : List (Bor (List ℕ))) → new ≡ old ++ concat (names_seen names) → names ≡ fault.names.items
      → old ++ names_joined (faults_seen (drop i faults)) ≡ all → new ++ names_joined (faults_seen (drop (i + 1) faults)) ≡ all
  next_names old new all names pushed same before =
      let rest : List ℕ = names_joined (faults_seen (drop (i + 1) faults)) in
      ap (λ made. made ++ rest) pushed ∙ append_assoc old (concat (names_seen names)) rest ∙ ap (λ given. old ++ (concat (names_seen given) ++ rest)) same
      ∙ ap (λ given. old ++ names_joined given) (sym left) ∙ before

pub loop-fault-preserved : goal.loop-fault-preserved
loop-fault-preserved c =
    let faults = c.args.faults.now in
    let i = c.loop-fault.fault-index in
    let fault = c.fault-item.result in (
      next_numbers faults i fault c.loop-fault-test.true c.fault-item.is c.loop-fault.shown.items _ (numbers_of_all (faults_seen faults)) c.of.result c.deref.result.now c.in_ok-push.ensures.items c.of.ensures.whole c.deref.ensures.value c.loop-fault.invariant.0,
      next_names faults i fault c.loop-fault-test.true c.fault-item.is c.loop-fault.names.items _ (names_joined (faults_seen faults)) c.deref-in-loop-fault.result.now c.in_ok-push_names.ensures c.deref-in-loop-fault.ensures.value c.loop-fault.invariant.1,
    )

pub returns-in_err-shown : goal.returns-in_err-shown
returns-in_err-shown c = IfOk-from_err _ _ c.from_residual.ensures.0

pub returns-in_err-push : goal.returns-in_err-push
returns-in_err-push c = IfOk-from_err _ _ c.from_residual-in_err-push.ensures.0

pub returns-in_err-push_names : goal.returns-in_err-push_names
returns-in_err-push_names c = IfOk-from_err _ _ c.from_residual-in_err-push_names.ensures.0

pub loop-fault-init : goal.loop-fault-init
loop-fault-init c =
    let faults = faults_seen c.args.faults.now in
    (ap (λ made. made ++ numbers_of_all faults) c.in_ok-shown.ensures.items, ap (λ made. made ++ names_joined faults) c.new-names.ensures.items)

pub returns : goal.returns
returns c =
    let faults = c.args.faults.now in (
      all_left (λ left. numbers_of_all (faults_seen left)) faults c.loop-fault.fault-index _ _ c.loop-fault-test.false refl c.loop-fault.invariant.0,
      all_left (λ left. names_joined (faults_seen left)) faults c.loop-fault.fault-index _ _ c.loop-fault-test.false refl c.loop-fault.invariant.1,
    )

pub of-requires : goal.of-requires
of-requires c =
    let few = subst (λ (fault : Refusal). length fault.names.items ≤ 16) (sym c.fault-item.is) (c.requires c.loop-fault.fault-index c.fault-item.result c.loop-fault-test.true) in
    subst (λ names. length names ≤ 16) (sym c.deref.ensures.value) few
