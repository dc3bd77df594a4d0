-- A map that is read past faults: of a file that has a map it is that one, and else the first fault is why it has none.
use Rattle.std.proofs.Common.{◌≡◌, ◌∙◌, ℕ, zero, suc, ◌<◌, ◌≤◌, refl, sym, ap, subst, ◌++◌, false, List, [], ◌∷◌, length, inl, inr, arith}
use Rattle.std.specs.Prelude.{◌≢◌, ◌⊎◌, Option}
use Rattle.std.proofs.Math.ListN.{length-map}
use Rattle.cmap_values.specs.Files.{File}
use Rattle.cmap_values.specs.declared.fault.Stop.{Stop}
use Rattle.cmap_binary.specs.Bundles.{PrefixTables}
use Rattle.cmap_layers.specs.Layers.{Layer}
use Rattle.cmap_layers.specs.LayersSeen.{layers_seen}
use Rattle.cmap_layers.specs.declared.layer.Layer as declared
use Rattle.cmap_load.specs.Answers.{IsByName}
use Rattle.cmap_load.specs.BytesSpent.{of_file}
use Rattle.cmap_load.specs.Layers.{Means}
use Rattle.cmap_load.specs.Maps.{ExceedsBudget, FitsBudget, HasNoMap, IsMapOf, LeadsToFault}
use Rattle.cmap_load.specs.Refusals.{Fails, IsFaultWithin}
use Rattle.cmap_load.specs.Salvage.{BeginsWithFault, Found, GivesMap, IsReadPast, IsRefusedFor, NamedFault, Opening, Reading, SalvagesEach, SalvagesMap, SalvagesNamed, SalvagesOver, SalvagesUse, list_each}
use Rattle.cmap_load.specs.declared.refusal.Cause.{Cause}
use Rattle.cmap_load.specs.declared.refusal.Cause.TheVariants.{Malformed, NoFile, ChainLength, OverBudget}
use Rattle.cmap_load.proofs.BudgetLeft.{not_over}
use Rattle.cmap_load.proofs.Listed.{list_each-first, list_each-none}
use Rattle.cmap_load.proofs.PastFaults.{HasFirst, Ends, right, wrong, salvages_end}

module _ (tables : Option PrefixTables) (answers : List ℕ → Option (List ℕ) → Type 0) (bytes : List ℕ) (budget : Option ℕ) where
  -- a file that fails has no map, or the budget doesn't suffice
  fails_none : (left : Option ℕ) (cause : Cause) → Fails (of_file (Means tables) answers 16) bytes budget left cause → (layers : List Layer) → IsMapOf tables answers bytes layers → FitsBudget tables answers bytes budget → ⊥
  fails_none left (Malformed stop) fails layers is fits = fails.none layers is.holds
  fails_none left NoFile fails layers is fits = fails.none layers is.holds
  fails_none left ChainLength fails layers is fits = fails.none layers is.holds
  fails_none left OverBudget fails layers is (trail, only, within) = within (fails trail only.holds)

  -- a file for which the budget suffices isn't refused for the budget
  goes_over : (names : List (List ℕ)) (fault cause : Cause) (left : Option ℕ) → IsRefusedFor tables answers bytes names fault cause → cause ≡ OverBudget → Fails (of_file (Means tables) answers 16) bytes budget left fault → FitsBudget tables answers bytes budget → ⊥
  goes_over names fault cause left shows over fails (trail, only, within) = within ((subst (λ c. Fails (of_file (Means tables) answers 16) bytes budget left c) (subst (IsRefusedFor tables answers bytes names fault) over shows) fails) trail only.holds)

  module _ (by_name : IsByName answers) (layers : List Layer) (faults : List NamedFault) where
    abbrev EndsSo : List Reading → Opening → Type 0
    EndsSo readings after = Ends (IsRefusedFor tables answers bytes) (of_file (Means tables) answers 16) bytes (λ names cause. IsFaultWithin tables answers budget 16 bytes names cause) [] budget (record { layers = layers; readings = readings; after = after })

    ends_so : (salvages : SalvagesMap tables answers bytes budget layers faults) → EndsSo salvages.0 salvages.1
    ends_so (readings, after, is, listed) = salvages_end tables answers bytes by_name 16 [] bytes refl (record { left = budget; closed = false }) (record { layers = layers; readings = readings; after = after }) refl is

    pub right_map : SalvagesMap tables answers bytes budget layers faults → GivesMap tables answers bytes budget layers faults
    right_map salvages other is fits = by (ends_so salvages)
      where
        by : EndsSo salvages.0 salvages.1 → (layers ≡ other) × (faults ≡ [])
        by (right none resolves still_open) = (is.alone layers resolves.only.holds, salvages.3 ∙ list_each-none [] salvages.0 none)
        by (wrong fault begins refuted) = absurd (fails_none refuted.left fault.cause refuted.fails other is fits)

    begins_so : (readings : List Reading) (fault : NamedFault) → HasFirst readings fault → (more : List NamedFault) × (list_each [] readings ≡ fault ∷ more)
    begins_so readings fault begins =
        let (more, is) = list_each-first begins.before begins.more (record { names = fault.names; causes = fault.cause ∷ begins.causes }) fault.cause begins.causes begins.none refl in
        (more, ap (λ r. list_each [] r) begins.split ∙ is)

    pub wrong_map : SalvagesMap tables answers bytes budget layers faults → HasNoMap tables answers bytes ⊎ ExceedsBudget tables answers bytes budget → BeginsWithFault tables answers bytes budget faults
    wrong_map salvages refused = by (ends_so salvages)
      where
        by : EndsSo salvages.0 salvages.1 → BeginsWithFault tables answers bytes budget faults
        by (right none resolves still_open) = elim refused [
          | inl no_map ↦ absurd (no_map layers resolves.only.holds)
          | inr over ↦ absurd (not_over budget salvages.1.left _ resolves.spent.leaves (over.all (resolves.spent.lengths, false) resolves.spent.opened.holds))
        ]
        by (wrong fault begins refuted) =
            let (more, is) = begins_so salvages.0 fault begins in
            (fault, more, refuted.cause, salvages.3 ∙ is, refuted.shows, subst (λ names. IsFaultWithin tables answers budget 16 bytes names refuted.cause) (sym refuted.named) refuted.leads_on)

    -- where no budget is passed, the first fault is none of the budget
    pub first_map : SalvagesMap tables answers bytes budget layers faults → HasNoMap tables answers bytes → FitsBudget tables answers bytes budget
        → (first : NamedFault) × (more : List NamedFault) × (cause : Cause) × (faults ≡ first ∷ more) × IsRefusedFor tables answers bytes first.names first.cause cause × (cause ≢ OverBudget) × LeadsToFault tables answers bytes budget first.names cause
    first_map salvages no_map fits = by (ends_so salvages)
      where
        by : EndsSo salvages.0 salvages.1 → (first : NamedFault) × (more : List NamedFault) × (cause : Cause) × (faults ≡ first ∷ more) × IsRefusedFor tables answers bytes first.names first.cause cause × (cause ≢ OverBudget) × LeadsToFault tables answers bytes budget first.names cause
        by (right none resolves still_open) = absurd (no_map layers resolves.only.holds)
        by (wrong fault begins refuted) =
            let (more, is) = begins_so salvages.0 fault begins in
            (fault, more, refuted.cause, salvages.3 ∙ is, refuted.shows, λ over. goes_over fault.names fault.cause refuted.cause refuted.left refuted.shows over refuted.fails fits, subst (λ names. IsFaultWithin tables answers budget 16 bytes names refuted.cause) (sym refuted.named) refuted.leads_on)

-- ---- how many layers there are
module _ {A : Type 0} (size : A → ℕ) (past : A → File → List Stop → Type 0) (answers : List ℕ → Option A → Type 0) where
  each_fits : (salvages : List ℕ → List Layer → Opening → Found → Type 0) (most : ℕ) → ((name : List ℕ) (base : List Layer) (opening : Opening) (found : Found) → length base ≤ most → salvages name base opening found → length found.layers ≤ most)
      → (names : List (List ℕ)) (base : List Layer) (opening : Opening) (found : Found) → length base ≤ most → SalvagesEach salvages names base opening found → length found.layers ≤ most
  each_fits salvages most fits [] base opening found short is = let same : length found.layers ≡ length base = ap (λ f. length f.layers) is in omega (arith, same, short)
  each_fits salvages most fits (name ∷ names) base opening found short (first, last, finds, others, is) =
      let rest = each_fits salvages most fits names first.layers first.after last (fits name base opening first short finds) others in
      let same : length found.layers ≡ length last.layers = ap (λ f. length f.layers) is in
      omega (arith, same, rest)

  named_fits : (salvages : List (List ℕ) → A → Opening → Found → Type 0) (most room : ℕ) (all : List (List ℕ)) (name : List ℕ) (now : Opening) (one : Found) → ((base : A) → salvages all base now one → length one.layers ≤ most)
      → SalvagesNamed answers salvages room all name now one → length one.layers ≤ most
  named_fits salvages most zero all name now one fits is = let same : length one.layers ≡ 0 = ap (λ f. length f.layers) is in omega (arith, same)
  named_fits salvages most (suc room) all name now one fits finds = elim finds [
    | inl (said, is) ↦ (let same : length one.layers ≡ 0 = ap (λ f. length f.layers) is in omega (arith, same))
    | inr (base, said, salvaged) ↦ fits base salvaged
  ]

  pub salvages_fit : (most : ℕ) (names : List (List ℕ)) (source : A) (opening : Opening) (found : Found) → SalvagesOver size past answers most names source opening found → (0 < length found.layers) × (length found.layers ≤ most)
  salvages_fit zero names source opening found salvages = absurd salvages
  salvages_fit (suc most) names source opening found (file, causes, rest, below, reads, uses, is) =
      let use_fits : (name : List ℕ) (base : List Layer) (now : Opening) (one : Found) → length base ≤ most → SalvagesUse answers (SalvagesOver size past answers most) most names name base now one → length one.layers ≤ most = λ name base now one fits finds. elim finds [
        | inl (closed, stays) ↦ (let same : length one.layers ≡ length base = ap (λ f. length f.layers) stays in omega (arith, same, fits))
        | inr (opens, named) ↦ named_fits (SalvagesOver size past answers most) most most (names ++ name ∷ []) name now one (λ under salvaged. (salvages_fit most (names ++ name ∷ []) under now one salvaged).1) named
      ] in
      let short = each_fits (SalvagesUse answers (SalvagesOver size past answers most) most names) most use_fits file.uses [] _ below (omega arith) uses in
      let same : length found.layers ≡ suc (length below.layers) = ap (λ f. length f.layers) is in
      (omega (arith, same), omega (arith, same, short))

pub map_fits : (tables : Option PrefixTables) (answers : List ℕ → Option (List ℕ) → Type 0) (bytes : List ℕ) (budget : Option ℕ) (layers : List declared.Layer) (faults : List NamedFault) → SalvagesMap tables answers bytes budget (layers_seen layers) faults → (0 < length layers) × (length layers ≤ 16)
map_fits tables answers bytes budget layers faults (readings, after, is, listed) =
    let fits = salvages_fit length (IsReadPast tables) answers 16 [] bytes _ _ is in
    let same : length (layers_seen layers) ≡ length layers = simp length-map in
    (omega (arith, fits.0, same), omega (arith, fits.1, same))
