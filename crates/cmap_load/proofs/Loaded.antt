-- What a loader gives, by answers that agree with what it was given.
use Rattle.std.proofs.Common.{◌≡◌, ◌≢◌, refl, sym, subst, ◌∙◌, arith, ℕ, true, false, List, [], ◌∷◌, ◌++◌, length, sum, Option, Some, None, inl, inr}
use Rattle.std.specs.Prelude.{IfErr, IfOk, IfSome, OnOk, Ok, Err, Result}
use Rattle.std.proofs.Math.ListN.{length-map}
use Rattle.std.proofs.lemmas.Slice.Eq.{bytes_eq-Decides}
use Rattle.cmap_values.specs.NamesSeen.{names_seen}
use Rattle.cmap_values.specs.Outcomes.{RefusesWith}
use Rattle.cmap_values.specs.declared.fault.Fault.{Fault}
use Rattle.cmap_values.specs.declared.fault.Fault.TheVariants as fault
use Rattle.cmap_binary.specs.Bundles.{PrefixTables}
use Rattle.cmap_layers.specs.Layers.{Layer}
use Rattle.cmap_load.specs.Answers.{IsByName}
use Rattle.cmap_load.specs.Budgets.{IsOver, OpensFirst, PassesAt, Trail}
use Rattle.cmap_load.specs.Layers.{Means}
use Rattle.cmap_load.specs.Maps.{ExceedsBudget, FitsBudget, HasNoMap, IsMapOf, LeadsToFault}
use Rattle.cmap_load.specs.Refusals.{IsFault}
use Rattle.cmap_load.specs.Results.{ReadsLayers}
use Rattle.cmap_load.specs.declared.refusal.Refusal.{Refusal}
use Rattle.cmap_load.specs.declared.refusal.Cause.{Cause}
use Rattle.cmap_load.specs.declared.refusal.Cause.TheVariants.{Malformed, NoFile, ChainLength, OverBudget}
use Rattle.cmap_load.proofs.BudgetLeft.{IsOver-more, sum-append}
use Rattle.cmap_load.proofs.FewNames.{IsFaultWithin-few}
use Rattle.cmap_load.proofs.OneFault.{first_past, free_of_bundle}
use Rattle.cmap_load.specs.Loading.{Agrees, Answer, AreLoaded, IsAnswered, IsFaulty, IsRefusal, IsWithin, OpensOnly, OpensOnlyFirst, bytes_at}
use Rattle.cmap_load.specs.Loads.{FitsGiven, IsRefused, Loads, Reads, budget_of, wanted_of}
use Rattle.cmap_load.specs.declared.loader.Loader.{Loader}
use Rattle.cmap_load.proofs.Agreed.{IsFault-as, IsMap-agreed, no_map}
use Rattle.cmap_load.proofs.Growing.{first_answer_pushed}
use Rattle.cmap_load.proofs.Growing.{bytes_at_front}
use Rattle.cmap_load.proofs.Trails.{files_front, first_as, first_means, opens_only}

-- answers that agree still do so with one more
pub Agrees-pushed : {answer : List ℕ → Option (List ℕ) → Type 0} (answers : List Answer) (name : List ℕ) (bytes : Option (List ℕ)) → Agrees (IsAnswered answers) answer → answer name bytes → Agrees (IsAnswered (answers ++ record { name = Some name; bytes = bytes } ∷ [])) answer
Agrees-pushed {answer} answers name bytes agrees said other found h = elim (first_answer_pushed answers (record { name = Some name; bytes = bytes }) other found h) [
  | inl before ↦ agrees other found before
  | inr (same, is) ↦ subst (λ b. answer other b) (sym is) (subst (λ n. answer n bytes) ((bytes_eq-Decides name other).0 same) said)
]

-- before any name is wanted
pub Agrees-none : (answer : List ℕ → Option (List ℕ) → Type 0) (bytes : List ℕ) → Agrees (IsAnswered (record { name = None; bytes = Some bytes } ∷ [])) answer
Agrees-none answer bytes name found h = absurd (cc)

module _ {N : Type 0} {texts : N → List (List ℕ)} {tables : Option PrefixTables} {budget : Option ℕ} {answer : List ℕ → Option (List ℕ) → Type 0} {bytes : List ℕ} where
  -- what loads a file still does so with one answer more
  pub Loads-supplied : (old new : Loader N) (name : List ℕ) (found : Option (List ℕ)) → wanted_of texts old ≡ Some name → budget_of new ≡ budget_of old
      → IfSome (wanted_of texts old) (λ name. (answers : List Answer) → Reads texts tables answers old → Reads texts tables (answers ++ record { name = Some name; bytes = found } ∷ []) new) → answer name found
      → Loads texts tables budget answer bytes old → Loads texts tables budget answer bytes new
  Loads-supplied old new name found is left more said loads =
      let reads : (answers : List Answer) → Reads texts tables answers old → Reads texts tables (answers ++ record { name = Some name; bytes = found } ∷ []) new =
      subst (λ wanted. IfSome wanted (λ name. (answers : List Answer) → Reads texts tables answers old → Reads texts tables (answers ++ record { name = Some name; bytes = found } ∷ []) new)) is more in
      record {
        answers = loads.answers ++ record { name = Some name; bytes = found } ∷ [];
        reads = reads loads.answers loads.reads;
        within = left ∙ loads.within;
        first = bytes_at_front loads.answers (record { name = Some name; bytes = found } ∷ []) 0 bytes loads.first;
        agrees = Agrees-pushed loads.answers name found loads.agrees said;
      }

  pub Loads-new : (loader : Loader N) → budget_of loader ≡ budget → Reads texts tables (record { name = None; bytes = Some bytes } ∷ []) loader → Loads texts tables budget answer bytes loader
  Loads-new loader within reads = record {
    answers = record { name = None; bytes = Some bytes } ∷ [];
    reads = reads;
    within = within;
    first = refl;
    agrees = Agrees-none answer bytes;
  }

-- by answers by name that agree with those of a loader
module _ (tables : Option PrefixTables) (answers : List Answer) (budget : Option ℕ) {answer : List ℕ → Option (List ℕ) → Type 0} (agrees : Agrees (IsAnswered answers) answer) (by_name : IsByName answer) (bytes : List ℕ) where
  -- the layers are the map of the first file
  pub IsMapOf-loaded : (layers : List Layer) → bytes_at answers 0 ≡ Some bytes → AreLoaded tables answers layers → IsMapOf tables answer bytes layers
  IsMapOf-loaded layers first loaded = IsMap-agreed (Means tables) agrees by_name 16 bytes layers (loaded.from bytes first)

  -- what is opened is within the budget
  fits : (trail : Trail) → OpensOnly tables (IsAnswered answers) 16 bytes trail → (IsOver budget (sum trail.0) → ⊥) → FitsBudget tables answer bytes budget
  fits trail opened within = (trail, opens_only tables agrees by_name 16 bytes trail opened, within)

  pub FitsBudget-within : IsWithin tables answers budget bytes → FitsBudget tables answer bytes budget
  FitsBudget-within whole = fits (whole.lengths, false) whole.whole.opened whole.within

  -- a file that is refused has no map, and the names lead to its fault
  pub record IsRefusedBy (names : List (List ℕ)) (cause : Cause) : Type 0 where
    pub refuses : cause ≢ OverBudget → HasNoMap tables answer bytes × FitsBudget tables answer bytes budget
    pub over : cause ≡ OverBudget → ExceedsBudget tables answer bytes budget
    pub blames : LeadsToFault tables answer bytes budget names cause

  faulty : (names : List (List ℕ)) (cause : Cause) → cause ≢ OverBudget → IsFaulty tables answers budget bytes names cause → (IsFault tables answer 16 bytes names cause → LeadsToFault tables answer bytes budget names cause) → IsRefusedBy names cause
  faulty names cause other refused leads =
      let fault = IsFault-as tables agrees 16 bytes names cause refused.fault in
      record {
        refuses = λ _. (no_map tables answer by_name 16 bytes names cause fault, fits (refused.lengths, true) refused.broken refused.within);
        over = λ is. absurd (other is);
        blames = leads fault;
      }

  exceeds : (names : List (List ℕ)) → PassesAt (OpensOnlyFirst tables (IsAnswered answers) 16 bytes) budget names → IsRefusedBy names OverBudget
  exceeds names past =
      let at : PassesAt (OpensFirst (Means tables) answer 16 bytes) budget names = record {
        before = past.before;
        last = past.last;
        opened = first_means tables agrees 16 bytes names (past.before ++ past.last ∷ []) past.opened;
        within = past.within;
        over = past.over;
      } in
      record {
        refuses = λ other. absurd (other refl);
        over = λ _. record {
          first = (names, at);
          all = λ trail opens.
              let (rest, is) = files_front tables by_name 16 bytes names (past.before ++ past.last ∷ []) trail (first_as tables agrees 16 bytes names (past.before ++ past.last ∷ []) past.opened) opens in
              let long = sum-append (past.before ++ past.last ∷ []) rest in
              subst (λ l. IsOver budget (sum l)) (sym is) (IsOver-more budget (sum (past.before ++ past.last ∷ [])) (sum ((past.before ++ past.last ∷ []) ++ rest)) (omega (arith, long)) past.over);
        };
        blames = at;
      }

  pub IsRefusedBy-refusal : (names : List (List ℕ)) (cause : Cause) → IsRefusal tables answers budget bytes names cause → IsRefusedBy names cause
  IsRefusedBy-refusal names (Malformed stop) refused = faulty names (Malformed stop) (λ is. absurd (cc)) refused (λ fault. fault)
  IsRefusedBy-refusal names NoFile refused = faulty names NoFile (λ is. absurd (cc)) refused (λ fault. fault)
  IsRefusedBy-refusal names ChainLength refused = faulty names ChainLength (λ is. absurd (cc)) refused (λ fault. fault)
  IsRefusedBy-refusal names OverBudget refused = exceeds names refused

-- a refusal with other words for the same
pub IsRefused-same : (tables : Option PrefixTables) (answers : List Answer) {budget other : Option ℕ} {names same : List (List ℕ)} {cause this : Cause} → IsRefused tables budget answers names cause → budget ≡ other → same ≡ names → this ≡ cause → IsRefused tables other answers same this
IsRefused-same tables answers {budget} {other} {names} {same} {cause} {this} is budgets texts causes =
    subst (λ b. IsRefused tables b answers same this) budgets (subst (λ n. IsRefused tables budget answers n this) (sym texts) (subst (λ c. IsRefused tables budget answers names c) (sym causes) is))

-- what a loader finds, by answers that agree with what it was given
module _ (tables : Option PrefixTables) (budget : Option ℕ) {answer : List ℕ → Option (List ℕ) → Type 0} {bytes : List ℕ} (by_name : IsByName answer) (given : List Answer) (begins : bytes_at given 0 ≡ Some bytes) (agrees : Agrees (IsAnswered given) answer) where
  pub found : (result : Result (List Layer) (Fault Refusal)) → IfOk result (AreLoaded tables given) → OnOk result (FitsGiven tables budget given)
      → IfErr result (RefusesWith (λ refusal. IsRefused tables budget given (names_seen refusal.names.items) refusal.cause)) → ReadsLayers tables answer bytes budget result
  found (Ok layers) loaded whole refused = record {
    accepts = IsMapOf-loaded tables given budget agrees by_name bytes layers begins loaded;
    within = FitsBudget-within tables given budget agrees by_name bytes (whole.from bytes begins);
    refuses = tt;
    over = tt;
    blames = tt;
    first = tt;
    few = tt;
  }
  found (Err (fault.Refused refusal)) loaded whole refused =
      let names = names_seen refusal.names.items in
      let by : IsRefusedBy tables given budget agrees by_name bytes names refusal.cause = IsRefusedBy-refusal tables given budget agrees by_name bytes names refusal.cause (refused.from bytes begins) in
      let short = IsFaultWithin-few tables answer budget 16 bytes names refusal.cause by.blames in
      let same : length names ≡ length refusal.names.items = simp length-map in
      record {
        accepts = tt;
        within = tt;
        refuses = by.refuses;
        over = by.over;
        blames = by.blames;
        first = λ other of_bundle. let (none, within) = by.refuses other in first_past tables (free_of_bundle tables of_bundle) answer by_name budget bytes names refusal.cause other none within by.blames;
        few = omega (arith, short, same);
      }
  found (Err fault.Memory) loaded whole refused = record { accepts = tt; within = tt; refuses = tt; over = tt; blames = tt; first = tt; few = tt }
