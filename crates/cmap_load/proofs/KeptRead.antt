-- What is read past faults of sources is what is read of other sources that give the same files: of kept files, and of the bytes that were answered.
use Rattle.std.proofs.Common.{◌≡◌, refl, sym, ap, subst, ◌∙◌, ℕ, zero, suc, ◌<◌, ◌≤◌, arith, List, [], ◌∷◌, ◌++◌, length, Option, Some, None, inl, inr}
use Rattle.std.specs.Prelude.{IfSome, false, is_some, map, true}
use Rattle.std.proofs.Math.ListN.{length-map}
use Rattle.std.proofs.lemmas.List.Elements.{All-nil, Contains-push_cases}
use Rattle.cmap_values.specs.Files.{File}
use Rattle.cmap_values.specs.ListsAppended.{no_file}
use Rattle.cmap_values.specs.declared.fault.Stop.{Stop}
use Rattle.cmap_binary.specs.Bundles.{PrefixTables}
use Rattle.cmap_layers.specs.Layers.{Layer, layer_of}
use Rattle.cmap_load.specs.Budgets.{IsOver}
use Rattle.cmap_load.specs.BytesSpent.{Leaves}
use Rattle.cmap_load.specs.Kept.{Files, IsAnswer, IsPast, IsSalvaged, Stored, file_at, layers_on, size}
use Rattle.cmap_load.specs.Loading.{Agrees, Answer}
use Rattle.cmap_load.specs.Salvage.{Found, IsReadPast, NamedFault, Opening, ReadsWithin, SalvagesEach, SalvagesMap, SalvagesNamed, SalvagesOver, SalvagesUse}
use Rattle.cmap_load.specs.SalvageLoads.{AreFew, AreOf, Follows, IsGiven, IsOf, IsReady, ReadsPast, Salvages, Walks, budget_in, faults_by, is_found, wanted_by, wanted_name}
use Rattle.cmap_load.specs.SalvageSeen.{fault_named}
use Rattle.cmap_load.specs.declared.refusal.Cause.{Cause}
use Rattle.cmap_load.specs.declared.refusal.Cause.TheVariants.{OverBudget}
use Rattle.cmap_load.specs.declared.salvage.kept.Progress.{Progress}
use Rattle.cmap_load.specs.declared.salvage.kept.Progress.TheVariants as progress
use Rattle.cmap_load.specs.declared.salvage.loader.SalvageLoader.{SalvageLoader}
use Rattle.cmap_load.proofs.Growing.{bytes_at_front}
use Rattle.cmap_load.proofs.SalvagedMaps.{salvages_fit}

each_as : (R S : List ℕ → List Layer → Opening → Found → Type 0) → ((name : List ℕ) (base : List Layer) (opening : Opening) (found : Found) → R name base opening found → S name base opening found)
    → (names : List (List ℕ)) (base : List Layer) (opening : Opening) (found : Found) → SalvagesEach R names base opening found → SalvagesEach S names base opening found
each_as R S gives [] base opening found is = is
each_as R S gives (name ∷ names) base opening found (first, last, one, rest, is) = (first, last, gives name base opening first one, each_as R S gives names first.layers first.after last rest, is)

-- each answer has a counterpart that gives the same file
module _ {A B : Type 0} (size : A → ℕ) (past : A → File → List Stop → Type 0) (answer : List ℕ → Option A → Type 0) (long : B → ℕ) (reads : B → File → List Stop → Type 0) (said : List ℕ → Option B → Type 0) (Is : A → B → Type 0)
    (same : (a : A) (b : B) → Is a b → size a ≡ long b) (keeps : (a : A) (b : B) → Is a b → (file : File) (stops : List Stop) → past a file stops → reads b file stops)
    (none : (name : List ℕ) → answer name None → said name None) (some : (name : List ℕ) (a : A) → answer name (Some a) → (b : B) × said name (Some b) × Is a b) where
  within_as : (left : Option ℕ) (a : A) (b : B) (file : File) (causes : List Cause) (rest : Option ℕ) → Is a b → ReadsWithin size past left a file causes rest → ReadsWithin long reads left b file causes rest
  within_as left a b file causes rest is read = elim read [
    | inl (over, empty, causes_are, stays) ↦ inl (subst (IsOver left) (same a b is) over, empty, causes_are, stays)
    | inr (stops, leaves, holds, causes_are) ↦ inr (stops, subst (λ n. Leaves left n rest) (same a b is) leaves, keeps a b is file stops holds, causes_are)
  ]

  named_as : (R : List (List ℕ) → A → Opening → Found → Type 0) (S : List (List ℕ) → B → Opening → Found → Type 0) (room : ℕ) (names : List (List ℕ)) (name : List ℕ) (opening : Opening) (found : Found)
      → ((a : A) (b : B) → Is a b → R names a opening found → S names b opening found) → SalvagesNamed answer R room names name opening found → SalvagesNamed said S room names name opening found
  named_as R S zero names name opening found gives is = is
  named_as R S (suc room) names name opening found gives finds = elim finds [
    | inl (nothing, is) ↦ inl (none name nothing, is)
    | inr (a, answered, salvaged) ↦ (let (b, holds, is) = some name a answered in inr (b, holds, gives a b is salvaged))
  ]

  pub salvages_as : (most : ℕ) (names : List (List ℕ)) (a : A) (b : B) (opening : Opening) (found : Found) → Is a b → SalvagesOver size past answer most names a opening found → SalvagesOver long reads said most names b opening found
  salvages_as zero names a b opening found is salvages = absurd salvages
  salvages_as (suc most) names a b opening found is (file, causes, rest, below, read, uses, found_is) =
      let use_as : (name : List ℕ) (base : List Layer) (now : Opening) (one : Found) → SalvagesUse answer (SalvagesOver size past answer most) most names name base now one → SalvagesUse said (SalvagesOver long reads said most) most names name base now one = λ name base now one finds. elim finds [
        | inl stays ↦ inl stays
        | inr (opens, named) ↦ inr (opens, named_as (SalvagesOver size past answer most) (SalvagesOver long reads said most) most (names ++ name ∷ []) name now one (λ under over holds salvaged. salvages_as most (names ++ name ∷ []) under over now one holds salvaged) named)
      ] in
      (file, causes, rest, below, within_as opening.left a b file causes rest is read, each_as (SalvagesUse answer (SalvagesOver size past answer most) most names) (SalvagesUse said (SalvagesOver long reads said most) most names) use_as file.uses [] _ below uses, found_is)

-- ---- kept files
module _ (tables : Option PrefixTables) (answers : List Answer) (top : List ℕ) (files : Files) (are : AreOf tables answers top files) where
  record IsSource (stored : Stored) (bytes : List ℕ) : Type 0 where
    long : size files stored ≡ length bytes
    past : (file : File) (stops : List Stop) → IsPast files stored file stops → IsReadPast tables bytes file stops

  source_at : (i : ℕ) (bytes : List ℕ) → IsOf tables files i bytes → IsSource (Stored.at i) bytes
  source_at i bytes is = record {
    long = is.long;
    past = λ file stops (listed, there, file_is, stops_are). subst (λ f. IsReadPast tables bytes f stops) (sym file_is) (subst (λ l. IsReadPast tables bytes (file_at files (Some i)) l) (sym stops_are) (is.past listed there));
  }

  source_of : (name : List ℕ) (stored : Stored) → IsAnswer files name (Some stored) → (bytes : List ℕ) × IsGiven answers name (Some bytes) × IsSource stored bytes
  source_of name (Stored.at i) (number, said, file, read) = let (bytes, given, is) = are.read number i name said file read in (bytes, given, source_at i bytes is)
  source_of name (Stored.too_long count) (number, said, long) =
      let (text, bytes, also, given, is) = are.long number count long in
      let both : Some text ≡ Some name = sym also ∙ said in
      let e : text ≡ name = cc in
      (bytes, subst (λ t. IsGiven answers t (Some bytes)) e given, record { long = is; past = λ file stops no. absurd no })

  pub map_of : (budget : Option ℕ) (layers : List Layer) (faults : List NamedFault) → IsSalvaged files budget layers faults → SalvagesMap tables (IsGiven answers) top budget layers faults
  map_of budget layers faults is = (
    is.readings,
    is.after,
    salvages_as (size files) (IsPast files) (IsAnswer files) length (IsReadPast tables) (IsGiven answers) IsSource (λ a b is. is.long) (λ a b is. is.past) (λ name (number, i, said, file, none). are.none number i name said file none) source_of 16 [] (Stored.at 0) top _ _ (source_at 0 top are.first) is.over,
    is.listed,
  )

-- ---- other answers that agree
pub map_agreed : (tables : Option PrefixTables) (answer other : List ℕ → Option (List ℕ) → Type 0) (bytes : List ℕ) (budget : Option ℕ) (layers : List Layer) (faults : List NamedFault) → Agrees answer other → SalvagesMap tables answer bytes budget layers faults → SalvagesMap tables other bytes budget layers faults
map_agreed tables answer other bytes budget layers faults agrees (readings, after, is, listed) = (
  readings,
  after,
  salvages_as length (IsReadPast tables) answer length (IsReadPast tables) other (λ a b. a ≡ b) (λ a b same. ap length same) (λ a b same file stops holds. subst (λ x. IsReadPast tables x file stops) same holds) (λ name none. agrees name None none) (λ name a said. (a, agrees name (Some a) said, refl)) 16 [] bytes bytes _ _ refl is,
  listed,
)

-- how many layers there are
pub path_fits : (files : Files) (budget : Option ℕ) (path : List (Option ℕ)) (faults : List NamedFault) → IsSalvaged files budget (layers_on files path) faults → (0 < length path) × (length path ≤ 16)
path_fits files budget path faults is =
    let fits = salvages_fit (size files) (IsPast files) (IsAnswer files) 16 [] (Stored.at 0) _ _ is.over in
    let same : length (layers_on files path) ≡ length path = simp length-map in
    (omega (arith, fits.0, same), omega (arith, fits.1, same))

-- ---- loaders
-- what comes next is no result yet
pub ready_open : (tables : Option PrefixTables) (answers : List Answer) (top : List ℕ) (files : Files) (now : Progress) → is_found now ≡ false → AreOf tables answers top files → IsReady tables answers top files now
ready_open tables answers top files (progress.Wanted unread) pending are = are
ready_open tables answers top files progress.Open pending are = are
ready_open tables answers top files (progress.Found found) pending are = absurd (cc)

-- what a walk finds
pub ready_walked : (tables : Option PrefixTables) (answers : List Answer) (top : List ℕ) (files : Files) (now : Progress) → Walks files now → AreOf tables answers top files → IsReady tables answers top files now
ready_walked tables answers top files (progress.Wanted unread) walks are = are
ready_walked tables answers top files progress.Open walks are = absurd walks
ready_walked tables answers top files (progress.Found found) walks are = map_of tables answers top files are files.table.graph.budget (layers_on files found.path.items) (map (fault_named files.texts) found.faults.items) walks

-- a walk ends unless a file is wanted
pub walks_settled : (texts : List (List ℕ)) (files : Files) (now : Progress) → Walks files now → is_some (wanted_by texts now) ≡ false → is_found now ≡ true
walks_settled texts files (progress.Wanted unread) walks none = absurd (cc)
walks_settled texts files progress.Open walks none = absurd walks
walks_settled texts files (progress.Found found) walks none = refl

-- few names lead to each fault that is found, and they have numbers
pub few_by : (files : Files) (now : Progress) → Follows files now → AreFew (faults_by now)
few_by files (progress.Wanted unread) follows = All-nil (λ fault. length fault.names.items ≤ 16)
few_by files progress.Open follows = All-nil (λ fault. length fault.names.items ≤ 16)
few_by files (progress.Found found) (some, short, named, few) = few

-- a top file that exceeds the budget
pub map_too_long : (tables : Option PrefixTables) (answers : List Answer) (top : List ℕ) (budget : Option ℕ) → IsOver budget (length top) → SalvagesMap tables (IsGiven answers) top budget (layer_of no_file ∷ []) (record { names = []; cause = OverBudget } ∷ [])
map_too_long tables answers top budget over =
    let now : Opening = record { left = budget; closed = false } in
    (record { names = []; causes = OverBudget ∷ [] } ∷ [], now, (no_file, OverBudget ∷ [], budget, record { layers = []; readings = []; after = now }, inl (over, refl, refl, refl), refl, refl), refl)

-- after each step
module _ {N : Type 0} (texts : N → List (List ℕ)) where
  pub Salvages-new : {tables : Option PrefixTables} {budget : Option ℕ} {answer : List ℕ → Option (List ℕ) → Type 0} {bytes : List ℕ} (loader : SalvageLoader N) → budget_in loader ≡ budget → ReadsPast texts tables (record { name = None; bytes = Some bytes } ∷ []) loader → Salvages texts tables budget answer bytes loader
  Salvages-new loader within reads = record {
    answers = _;
    reads = reads;
    within = within;
    first = refl;
    agrees = λ name given is. elim (Contains-push_cases [] _ (record { name = Some name; bytes = given }) is) [
      | inl (k, lt, there) ↦ absurd (omega (arith, lt))
      | inr same ↦ (let e : None ≡ Some name = ap (λ (a : Answer). a.name) same in absurd (cc))
    ];
  }

  pub Salvages-wanted : {tables : Option PrefixTables} {budget : Option ℕ} {answer : List ℕ → Option (List ℕ) → Type 0} {bytes : List ℕ} (old new : SalvageLoader N) → budget_in new ≡ budget_in old → ((answers : List Answer) → ReadsPast texts tables answers old → ReadsPast texts tables answers new) → Salvages texts tables budget answer bytes old → Salvages texts tables budget answer bytes new
  Salvages-wanted old new same reads was = record { answers = was.answers; reads = reads was.answers was.reads; within = same ∙ was.within; first = was.first; agrees = was.agrees }

  pub Salvages-supplied : {tables : Option PrefixTables} {budget : Option ℕ} {answer : List ℕ → Option (List ℕ) → Type 0} {bytes : List ℕ} (old new : SalvageLoader N) (name : List ℕ) (given : Option (List ℕ)) → wanted_name texts old ≡ Some name → budget_in new ≡ budget_in old
      → IfSome (wanted_name texts old) (λ text. (answers : List Answer) → ReadsPast texts tables answers old → ReadsPast texts tables (answers ++ record { name = Some text; bytes = given } ∷ []) new) → answer name given → Salvages texts tables budget answer bytes old → Salvages texts tables budget answer bytes new
  Salvages-supplied {tables} {budget} {answer} old new name given wanted same reads said was = record {
    answers = was.answers ++ record { name = Some name; bytes = given } ∷ [];
    reads = rw wanted at reads was.answers was.reads;
    within = same ∙ was.within;
    first = bytes_at_front was.answers (record { name = Some name; bytes = given } ∷ []) 0 _ was.first;
    agrees = λ other bytes is. elim (Contains-push_cases was.answers (record { name = Some name; bytes = given }) (record { name = Some other; bytes = bytes }) is) [
      | inl before ↦ was.agrees other bytes before
      | inr last ↦ (
          let names : Some name ≡ Some other = ap (λ (a : Answer). a.name) last in
          let same_name : name ≡ other = cc in
          subst (λ n. answer n bytes) same_name (subst (answer name) (ap (λ (a : Answer). a.bytes) last) said))
    ];
  }
