-- No more names lead to a fault than files may stand in a chain, where files are read past their faults.
use Rattle.std.proofs.Common.{◌≡◌, ℕ, zero, suc, ◌≤◌, ◌+◌, sym, subst, List, [], ◌∷◌, ◌++◌, length, inl, inr, arith}
use Rattle.std.specs.Prelude.{Option, map}
use Rattle.std.specs.List.{All}
use Rattle.std.proofs.Math.ListN.{length-append}
use Rattle.std.proofs.Math.ListN.{length-map}
use Rattle.std.proofs.lemmas.List.Elements.{All-append, All-cons, All-head, All-nil, All-tail}
use Rattle.cmap_binary.specs.Bundles.{PrefixTables}
use Rattle.cmap_values.specs.NamesSeen.{names_seen}
use Rattle.cmap_values.specs.Files.{File}
use Rattle.cmap_values.specs.declared.fault.Stop.{Stop}
use Rattle.cmap_layers.specs.Layers.{Layer}
use Rattle.cmap_load.specs.Kept.{Files, IsAnswer, IsPast, IsSalvaged, Stored, size}
use Rattle.cmap_load.specs.Numbers.{text_at}
use Rattle.cmap_load.specs.Salvage.{Found, IsReadPast, NamedFault, Opening, Reading, SalvagesEach, SalvagesMap, SalvagesNamed, SalvagesOver, SalvagesUse}
use Rattle.cmap_load.specs.SalvageSeen.{fault_named, fault_seen, faults_seen}
use Rattle.cmap_load.specs.declared.refusal.Cause.{Cause}
use Rattle.cmap_load.specs.declared.refusal.Cause.TheVariants.{ChainLength, NoFile}
use Rattle.cmap_load.specs.declared.faults.FoundFault.{FoundFault}
use Rattle.cmap_load.specs.declared.refusal.Refusal.{Refusal}
use Rattle.cmap_load.proofs.Listed.{list_each-All}

abbrev AreFew : List (List ℕ) → Type 0
AreFew names = length names ≤ 16

abbrev HasFew : Reading → Type 0
HasFew reading = AreFew reading.names

abbrev HaveFew : Found → Type 0
HaveFew found = All HasFew found.readings

one_few : (names : List (List ℕ)) (causes : List Cause) → AreFew names → All HasFew (record { names = names; causes = causes } ∷ [])
one_few names causes few = All-cons HasFew (record { names = names; causes = causes }) [] few (All-nil HasFew)

each_few : (salvages : List ℕ → List Layer → Opening → Found → Type 0) → ((name : List ℕ) (base : List Layer) (opening : Opening) (found : Found) → salvages name base opening found → HaveFew found)
    → (names : List (List ℕ)) (base : List Layer) (opening : Opening) (found : Found) → SalvagesEach salvages names base opening found → HaveFew found
each_few salvages few [] base opening found is = subst HaveFew (sym is) (All-nil HasFew)
each_few salvages few (name ∷ names) base opening found (first, last, finds, others, is) =
    subst HaveFew (sym is) (All-append HasFew first.readings last.readings (few name base opening first finds) (each_few salvages few names first.layers first.after last others))

module _ {A : Type 0} (size : A → ℕ) (past : A → File → List Stop → Type 0) (answer : List ℕ → Option A → Type 0) where
  named_few : (salvages : List (List ℕ) → A → Opening → Found → Type 0) (room : ℕ) (names : List (List ℕ)) (name : List ℕ) (now : Opening) (found : Found) → length names ≤ 16 → ((source : A) → salvages names source now found → HaveFew found)
      → SalvagesNamed answer salvages room names name now found → HaveFew found
  named_few salvages zero names name now found short few is = subst HaveFew (sym is) (one_few names (ChainLength ∷ []) short)
  named_few salvages (suc room) names name now found short few finds = elim finds [
    | inl (said, is) ↦ subst HaveFew (sym is) (one_few names (NoFile ∷ []) short)
    | inr (source, said, salvaged) ↦ few source salvaged
  ]

  salvages_few : (most : ℕ) (names : List (List ℕ)) (source : A) (opening : Opening) (found : Found) → length names + most ≤ 16 → SalvagesOver size past answer most names source opening found → HaveFew found
  salvages_few zero names source opening found short salvages = absurd salvages
  salvages_few (suc most) names source opening found short (file, causes, rest, below, reads, uses, is) =
      let use_few : (name : List ℕ) (base : List Layer) (now : Opening) (one : Found) → SalvagesUse answer (SalvagesOver size past answer most) most names name base now one → HaveFew one = λ name base now one finds. elim finds [
        | inl (closed, stays) ↦ subst HaveFew (sym stays) (All-nil HasFew)
        | inr (opens, named) ↦ (let longer : length (names ++ name ∷ []) ≡ length names + 1 = length-append names (name ∷ []) in
            named_few (SalvagesOver size past answer most) most (names ++ name ∷ []) name now one (omega (arith, longer, short)) (λ under salvaged. salvages_few most (names ++ name ∷ []) under now one (omega (arith, longer, short)) salvaged) named)
      ] in
      subst HaveFew (sym is) (All-cons HasFew (record { names = names; causes = causes }) below.readings (omega (arith, short)) (each_few (SalvagesUse answer (SalvagesOver size past answer most) most names) use_few file.uses [] _ below uses))

abbrev pub HasFewNames : Refusal → Type 0
HasFewNames refusal = length refusal.names.items ≤ 16

abbrev FaultHasFew : NamedFault → Type 0
FaultHasFew fault = AreFew fault.names

refusals_few : (faults : List Refusal) → All FaultHasFew (faults_seen faults) → All HasFewNames faults
refusals_few [] few = All-nil HasFewNames
refusals_few (fault ∷ faults) few =
    let here : length (names_seen fault.names.items) ≤ 16 = All-head FaultHasFew (fault_seen fault) (faults_seen faults) few in
    let same : length (names_seen fault.names.items) ≡ length fault.names.items = simp length-map in
    All-cons HasFewNames fault faults (omega (arith, here, same)) (refusals_few faults (All-tail FaultHasFew (fault_seen fault) (faults_seen faults) few))

-- at most 16 names lead to each fault
pub map_few : (tables : Option PrefixTables) (answers : List ℕ → Option (List ℕ) → Type 0) (bytes : List ℕ) (budget : Option ℕ) (layers : List Layer) (faults : List Refusal) → SalvagesMap tables answers bytes budget layers (faults_seen faults) → All HasFewNames faults
map_few tables answers bytes budget layers faults (readings, after, is, listed) =
    let few = salvages_few length (IsReadPast tables) answers 16 [] bytes _ _ (omega arith) is in
    refusals_few faults (subst (All FaultHasFew) (sym listed) (list_each-All AreFew [] readings (All-nil FaultHasFew) few))

numbers_few : (texts : List (List ℕ)) (faults : List FoundFault) → All FaultHasFew (map (fault_named texts) faults) → All (λ fault. length fault.names.items ≤ 16) faults
numbers_few texts [] few = All-nil (λ fault. length fault.names.items ≤ 16)
numbers_few texts (fault ∷ faults) few =
    let here : length (map (text_at texts) fault.names.items) ≤ 16 = All-head FaultHasFew (fault_named texts fault) (map (fault_named texts) faults) few in
    let same : length (map (text_at texts) fault.names.items) ≡ length fault.names.items = simp length-map in
    All-cons (λ (f : FoundFault). length f.names.items ≤ 16) fault faults (omega (arith, here, same)) (numbers_few texts faults (All-tail FaultHasFew (fault_named texts fault) (map (fault_named texts) faults) few))

pub found_few : (files : Files) (budget : Option ℕ) (layers : List Layer) (faults : List FoundFault) → IsSalvaged files budget layers (map (fault_named files.texts) faults) → All (λ fault. length fault.names.items ≤ 16) faults
found_few files budget layers faults is =
    let few = salvages_few (size files) (IsPast files) (IsAnswer files) 16 [] (Stored.at 0) _ _ (omega arith) is.over in
    numbers_few files.texts faults (subst (All FaultHasFew) (sym is.listed) (list_each-All AreFew [] is.readings (All-nil FaultHasFew) few))

few_named : (texts : List (List ℕ)) (faults : List FoundFault) → All (λ fault. length fault.names.items ≤ 16) faults → All FaultHasFew (map (fault_named texts) faults)
few_named texts [] few = All-nil FaultHasFew
few_named texts (fault ∷ faults) few =
    let here : length fault.names.items ≤ 16 = All-head (λ (f : FoundFault). length f.names.items ≤ 16) fault faults few in
    let same : length (map (text_at texts) fault.names.items) ≡ length fault.names.items = simp length-map in
    All-cons FaultHasFew (fault_named texts fault) (map (fault_named texts) faults) (omega (arith, here, same)) (few_named texts faults (All-tail (λ (f : FoundFault). length f.names.items ≤ 16) fault faults few))

-- the same of the faults with their names
pub seen_few : (texts : List (List ℕ)) (faults : List FoundFault) (refusals : List Refusal) → faults_seen refusals ≡ map (fault_named texts) faults → All (λ fault. length fault.names.items ≤ 16) faults → All HasFewNames refusals
seen_few texts faults refusals same few = refusals_few refusals (subst (All FaultHasFew) (sym same) (few_named texts faults few))
