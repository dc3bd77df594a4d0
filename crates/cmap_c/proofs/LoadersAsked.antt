-- What is known of a loader that was asked which file it wants, or that was given a file.
use Rattle.std.proofs.Common.{◌≡◌, ◌∙◌, ◌+◌, ℕ, true, false, true≢false, List, [], ◌∷◌, ◌++◌, Option, Some, None, Result, Ok, Err, ap, inl, inr, map, refl, sym}
use Rattle.std.proofs.lemmas.Option.{same_Some}
use Rattle.std.specs.Prelude.{IfSome, IsSome, IsSomeAnd, OnOk}
use Rattle.cmap_binary.specs.Bundles.{Bundle, PrefixTables}
use Rattle.cmap_layers.specs.Layers.{Layer}
use Rattle.cmap_load.specs.Kept.{Files, files_of, layers_on}
use Rattle.cmap_load.specs.Loading.{Answer}
use Rattle.cmap_load.specs.Loads.{Reads, budget_of, files_in, wanted_of}
use Rattle.cmap_load.specs.NameCopies.{texts_of}
use Rattle.cmap_load.specs.Salvage.{NamedFault, SalvagesMap}
use Rattle.cmap_load.specs.SalvageLoads.{IsGiven, IsReady, ReadsPast, budget_in, faults_by, faults_of, files_read, is_found, is_settled, wanted_name}
use Rattle.cmap_load.specs.SalvageSeen.{fault_named}
use Rattle.cmap_load.specs.declared.loader.Loader.{Loader}
use Rattle.cmap_load.specs.declared.names.NameCopies.{NameCopies}
use Rattle.cmap_load.specs.declared.salvage.kept.Progress.{Progress}
use Rattle.cmap_load.specs.declared.salvage.kept.Progress.TheVariants as progress
use Rattle.cmap_load.specs.declared.salvage.loader.SalvageLoader.{SalvageLoader}
use Rattle.cmap_values.specs.declared.fault.Fault.{Fault}
use Rattle.cmap_values.specs.declared.fault.Fault.TheVariants as fault
use Rattle.cmap_c.specs.Endings.{IsKept, IsTold}
use Rattle.cmap_c.specs.Faults.{status_of}
use Rattle.cmap_c.specs.Loaders.{AreFound, Gives, GivesAsked, HasNoFaults, IfRefusing, IsAnswered, IsAsked, IsFinished, IsSupplied, ShowsFaults, WantsNone, WasGiven, budget_given, file_for, files_given, name_wanted, reads_past, tables_in}
use Rattle.cmap_c.specs.Salvaged.{AreFaultsShown}
use Rattle.cmap_c.specs.declared.either_loader.EitherLoader.{EitherLoader}
use Rattle.cmap_c.specs.declared.either_loader.EitherLoader.TheVariants.{PastFaults, Refusing}
use Rattle.cmap_c.specs.declared.fault.FaultNumbers.{FaultNumbers}
use Rattle.cmap_c.specs.declared.fault.Told.{Told}
use Rattle.cmap_c.specs.declared.salvage.ShownFaults.{ShownFaults}
use Rattle.cmap_handles.specs.Statuses.{number}
use Rattle.cmap_handles.specs.declared.status.Status.{Status}
use Rattle.cmap_handles.specs.declared.status.Status.TheVariants.{Done, NoMemory, OverBudget, Refused}
use Rattle.cmap_handles.proofs.StatusNumbers.{neither, not_both}
use Rattle.cmap_c.proofs.StatusOfCauses.{number_of_cause}

pub asked_kind : (old new : EitherLoader) → IsAsked old new → reads_past old ≡ reads_past new
asked_kind (Refusing old) new same = ap reads_past (sym same)
asked_kind (PastFaults old) (Refusing new) asked = absurd asked
asked_kind (PastFaults old) (PastFaults new) asked = refl

pub no_faults-wanted : (loader : EitherLoader) → IsSome (name_wanted loader) → HasNoFaults loader
no_faults-wanted (Refusing loader) wanted = tt
no_faults-wanted (PastFaults loader) wanted = wanted

pub no_faults-refusing : (loader : EitherLoader) → reads_past loader ≡ false → HasNoFaults loader
no_faults-refusing (Refusing loader) refusing = tt
no_faults-refusing (PastFaults loader) refusing = absurd (true≢false refusing)

-- the file of the wanted name was given
module _ (tables : Option PrefixTables) (file : Option (List ℕ)) where
  answered : (wanted : Option (List ℕ)) (old new : EitherLoader) → reads_past new ≡ reads_past old → budget_given new ≡ budget_given old
      → IfSome wanted (λ name. (answers : List Answer) → WasGiven tables answers old → WasGiven tables (answers ++ record { name = Some name; bytes = file } ∷ []) new)
      → (IfRefusing (λ loader. IsSome (wanted_of texts_of loader)) new → files_given new ≡ files_given old + 1)
      → IfSome wanted (λ name. IsAnswered tables name file old new)
  answered None old new kind within reads further = tt
  answered (Some name) old new kind within reads further = record { kind = kind; answered = reads; within = within; further = further }

  pub answered-refusing : {E : Type 0} (result : Result (Unit {0}) E) (old new : Loader NameCopies) → budget_of new ≡ budget_of old
      → OnOk result (IfSome (wanted_of texts_of old) (λ name. (answers : List Answer) → Reads texts_of tables answers old → Reads texts_of tables (answers ++ record { name = Some name; bytes = file } ∷ []) new))
      → OnOk result (IsSome (wanted_of texts_of new) → files_in new ≡ files_in old + 1)
      → OnOk result (IfSome (wanted_of texts_of old) (λ name. IsAnswered tables name file (Refusing old) (Refusing new)))
  answered-refusing (Ok done) old new within reads further = answered (wanted_of texts_of old) (Refusing old) (Refusing new) refl within reads further
  answered-refusing (Err fault) old new within reads further = tt

  pub answered-past : {E : Type 0} (result : Result (Unit {0}) E) (old new : SalvageLoader NameCopies) → budget_in new ≡ budget_in old
      → OnOk result (IfSome (wanted_name texts_of old) (λ name. (answers : List Answer) → ReadsPast texts_of tables answers old → ReadsPast texts_of tables (answers ++ record { name = Some name; bytes = file } ∷ []) new))
      → OnOk result (files_read new ≡ files_read old + 1)
      → OnOk result (IfSome (wanted_name texts_of old) (λ name. IsAnswered tables name file (PastFaults old) (PastFaults new)))
  answered-past (Ok done) old new within reads further = answered (wanted_name texts_of old) (PastFaults old) (PastFaults new) refl within reads (λ _. further)
  answered-past (Err fault) old new within reads further = tt

-- an answer to a loader that was asked is an answer to the loader before
answered_before : (tables : Option PrefixTables) (name : List ℕ) (file : Option (List ℕ)) (old asked new : EitherLoader) → IsAsked old asked → IsAnswered tables name file asked new → IsAnswered tables name file old new
answered_before tables name file (Refusing old) asked new same given = rw same at given
answered_before tables name file (PastFaults old) (Refusing asked) new is given = absurd is
answered_before tables name file (PastFaults old) (PastFaults asked) new is given = record {
  kind = given.kind;
  answered = λ answers reads. given.answered answers (is.reads tables answers reads);
  within = given.within ∙ is.within;
  further = λ wanted. given.further wanted ∙ ap (λ n. n + 1) is.files;
}

pub supplied : (bundle : Option Bundle) (found : ℕ) (bytes name : List ℕ) (old asked new : EitherLoader) (tables : Option PrefixTables) (file : Option (List ℕ)) → IsAsked old asked → Some name ≡ name_wanted asked
    → tables ≡ tables_in bundle → file ≡ file_for bundle name found bytes → IfSome (name_wanted asked) (λ name. IsAnswered tables name file asked new) → IsSupplied bundle found bytes old new
supplied bundle found bytes name old asked new tables file is_asked wanted of is given = record {
  asked = asked;
  is_asked = is_asked;
  name = name;
  wanted = sym wanted;
  answered = answered_before (tables_in bundle) name (file_for bundle name found bytes) old asked new is_asked (rw (← wanted, of, is) at given);
}

-- what a progress found are faults of the first file
found_by : (tables : Option PrefixTables) (answers : List Answer) (top : List ℕ) (files : Files) (found : Progress) → is_found found ≡ true → IsReady tables answers top files found
    → (layers : List Layer) × SalvagesMap tables (IsGiven answers) top files.table.graph.budget layers (map (fault_named files.texts) (faults_by found))
found_by tables answers top files (progress.Wanted unread) is ready = absurd (true≢false (sym is))
found_by tables answers top files progress.Open is ready = absurd (true≢false (sym is))
found_by tables answers top files (progress.Found found) is ready = (layers_on files found.path.items, ready)

are_found : (loader : SalvageLoader NameCopies) → is_settled loader ≡ true → AreFound loader
are_found loader settled = record {
  by = λ tables answers top reads first.
      let same : reads.top ≡ top = same_Some reads.top top (sym reads.first ∙ first) in
      found_by tables answers top (files_of texts_of loader.files) loader.progress settled (rw same at reads.ready);
}

pub shows : (loader : SalvageLoader NameCopies) (faults : List NamedFault) (shown : ShownFaults) → is_settled loader ≡ true → faults ≡ faults_of texts_of loader → AreFaultsShown faults shown → ShowsFaults (PastFaults loader) shown
shows loader faults shown settled same are = (settled, are_found loader settled, rw same at are)

pub gives_asked : (old : Option EitherLoader) (asked : EitherLoader) (made : Option (List Layer)) → IsSomeAnd old (λ before. IsAsked before asked × WantsNone asked) → IsSomeAnd made (Gives asked)
    → IsSomeAnd old (λ before. IsSomeAnd made (GivesAsked before))
gives_asked None asked made is gives = is
gives_asked (Some before) asked None is gives = gives
gives_asked (Some before) asked (Some layers) is gives = record { asked = asked; is_asked = is.0; all = is.1; gives = gives }

-- a map that a handle has is what the loader gives
pub made_by : (loader : EitherLoader) (left : Option EitherLoader) (finished : Result (List Layer) (Fault Told)) (old_fault new_fault : FaultNumbers) (old new : List ℕ) (old_needed needed : ℕ)
    → (told : Result (List Layer) Status) (status : ℕ) (now : Option (List Layer)) → IsFinished loader left finished → IsTold finished old_fault new_fault old new old_needed needed told → IsKept told status now
    → status ≡ 0 → IsSomeAnd now (Gives loader)
made_by loader left (Ok layers) old_fault new_fault old new old_needed needed told status now ends is_told kept done =
    elim (rw is_told.0 at kept) [ inl there ↦ rw there.1 ends.0 | inr none ↦ absurd (not_both NoMemory Done refl none.0 done) ]
made_by loader left (Err fault.Memory) old_fault new_fault old new old_needed needed told status now ends is_told kept done = absurd (not_both NoMemory Done refl (rw is_told.0 at kept).0 done)
made_by loader left (Err (fault.Refused of)) old_fault new_fault old new old_needed needed told status now ends is_told kept done =
    let why : status ≡ number (status_of of.cause) = (rw is_told.0 at kept).0 in
    absurd (neither Done Refused OverBudget refl refl done (number_of_cause of.cause status why))
