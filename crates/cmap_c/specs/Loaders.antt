-- Loaders that C supplies: what they were given, what they want, and what their results are.
use Rattle.std.specs.Prelude.{◌≡◌, ℕ, ◌⊎◌, ◌+◌, ◌==◌, Bool, true, false, List, [], ◌∷◌, ◌++◌, IsSome, IsSomeAnd, Option, None, Some, Result, Ok, Err, if◌then◌else◌, is_some, option_and_then, option_map}
use Rattle.std.specs.Option.{option_or}
use Rattle.cmap_binary.specs.Bundles.{Bundle, PrefixTables}
use Rattle.cmap_values.specs.declared.fault.Fault.{Fault}
use Rattle.cmap_values.specs.declared.fault.Fault.TheVariants as fault
use Rattle.cmap_layers.specs.Layers.{Layer}
use Rattle.cmap_load.specs.Answers.{embedded}
use Rattle.cmap_load.specs.Identity.{identity_text}
use Rattle.cmap_load.specs.Loading.{Answer, IsWanted, bytes_at}
use Rattle.cmap_load.specs.Loads.{AreLoadedBy, FitsBy, IsLoading, IsRefusedBy, IsUnchanged, Reads, budget_of, files_in, refusal_of, wanted_of}
use Rattle.cmap_load.specs.NameCopies.{AreNumbered, texts_of}
use Rattle.cmap_load.specs.Salvage.{NamedFault, SalvagesMap}
use Rattle.cmap_load.specs.SalvageLoads.{IsGiven, IsSalvagedBy, IsSalvaging, ReadsPast, budget_in, faults_of, files_read, is_settled, wanted_name}
use Rattle.cmap_load.specs.declared.refusal.Cause.{Cause}
use Rattle.cmap_load.specs.declared.loader.Loader.{Loader}
use Rattle.cmap_load.specs.declared.names.NameCopies.{NameCopies}
use Rattle.cmap_load.specs.declared.salvage.loader.SalvageLoader.{SalvageLoader}
use Rattle.cmap_c.specs.Faults.{IsToldWith}
use Rattle.cmap_c.specs.Salvaged.{AreFaultsShown}
use Rattle.cmap_c.specs.declared.either_loader.EitherLoader.{EitherLoader}
use Rattle.cmap_c.specs.declared.either_loader.EitherLoader.TheVariants.{PastFaults, Refusing}
use Rattle.cmap_c.specs.declared.fault.Told.{Told}
use Rattle.cmap_c.specs.declared.salvage.ShownFaults.{ShownFaults}

-- ---- two kinds of loaders
-- the loader reads files past their faults
abbrev pub reads_past : EitherLoader → Bool
reads_past (Refusing loader) = false
reads_past (PastFaults loader) = true

-- a loader that refuses a file at fault has the property
abbrev pub IfRefusing : (Loader NameCopies → Type 0) → EitherLoader → Type 0
IfRefusing P (Refusing loader) = P loader
IfRefusing P (PastFaults loader) = Unit {0}

-- a handle has a loader before and after a call, with this relation between them
abbrev pub HasBoth : (EitherLoader → EitherLoader → Type 0) → Option EitherLoader → Option EitherLoader → Type 0
HasBoth relation old new = IsSomeAnd old (λ before. IsSomeAnd new (relation before))

-- ---- files that are loaded
-- the loader was given these answers, and reads binary files by these tables
abbrev pub WasGiven : Option PrefixTables → List Answer → EitherLoader → Type 0
WasGiven tables answers (Refusing loader) = Reads texts_of tables answers loader
WasGiven tables answers (PastFaults loader) = ReadsPast texts_of tables answers loader

abbrev pub budget_given : EitherLoader → Option ℕ
budget_given (Refusing loader) = budget_of loader
budget_given (PastFaults loader) = budget_in loader

-- the number of files that were read, or past faults supplied
abbrev pub files_given : EitherLoader → ℕ
files_given (Refusing loader) = files_in loader
files_given (PastFaults loader) = files_read loader

-- the tables by which binary files are read
abbrev pub tables_in : Option Bundle → Option PrefixTables
tables_in bundle = option_map (λ b. b.tables) bundle

-- the loader was given the first file alone, which has no name
pub record Begins (bundle : Option Bundle) (bytes : List ℕ) (budget : Option ℕ) (loader : EitherLoader) : Type 0 where
  pub given : WasGiven (tables_in bundle) (record { name = None; bytes = Some bytes } ∷ []) loader
  pub within : budget_given loader ≡ budget

-- ---- files that are wanted
-- the name that the loader wants; a loader past faults may not know it before it is asked
abbrev pub name_wanted : EitherLoader → Option (List ℕ)
name_wanted (Refusing loader) = wanted_of texts_of loader
name_wanted (PastFaults loader) = wanted_name texts_of loader

-- the name that the loader of a handle wants, if there is a loader and it wants a file
abbrev pub wanted_in : Option EitherLoader → Option (List ℕ)
wanted_in loader = option_and_then name_wanted loader

-- the loader wants no further file, and knows it
abbrev pub WantsNone : EitherLoader → Type 0
WantsNone (Refusing loader) = wanted_of texts_of loader ≡ None
WantsNone (PastFaults loader) = is_settled loader ≡ true

-- a loader past faults was asked which file it wants: its answers and its budget stay, and it is unchanged if it knew the next name, or that there is none
pub record IsAskedPast (old new : SalvageLoader NameCopies) : Type 0 where
  pub reads : (tables : Option PrefixTables) (answers : List Answer) → ReadsPast texts_of tables answers old → ReadsPast texts_of tables answers new
  pub within : budget_in new ≡ budget_in old
  pub files : files_read new ≡ files_read old
  pub known : IsSome (wanted_name texts_of old) ⊎ (is_settled old ≡ true) → new ≡ old

-- a loader was asked which file it wants; a loader that refuses a file at fault is unchanged
abbrev pub IsAsked : EitherLoader → EitherLoader → Type 0
IsAsked (Refusing old) new = new ≡ Refusing old
IsAsked (PastFaults old) (Refusing new) = ⊥
IsAsked (PastFaults old) (PastFaults new) = IsAskedPast old new

-- the loader of a handle was asked, if there is one
abbrev pub AreAsked : Option EitherLoader → Option EitherLoader → Type 0
AreAsked None new = new ≡ None
AreAsked (Some old) new = IsSomeAnd new (IsAsked old)

-- a file that was supplied uses the name, and the name has no answer yet
pub record IsNew (loader : Loader NameCopies) (name : List ℕ) : Type 0 where
  pub by : (tables : Option PrefixTables) (answers : List Answer) → Reads texts_of tables answers loader → IsWanted tables answers name

-- ---- files that are supplied
-- the bundle's file of a name, else the text of Identity-H or Identity-V, which need no file
abbrev pub file_elsewhere : Option Bundle → List ℕ → Option (List ℕ)
file_elsewhere bundle name = option_or (embedded bundle name) (identity_text name)

-- the file of a name by what C says of it: the bytes that C passes, a file that is elsewhere, or none
abbrev pub file_for : Option Bundle → List ℕ → ℕ → List ℕ → Option (List ℕ)
file_for bundle name found bytes = if found == 0 then file_elsewhere bundle name else if found == 1 then Some bytes else None

-- the loader was given one answer more: these bytes for this name
pub record IsAnswered (tables : Option PrefixTables) (name : List ℕ) (bytes : Option (List ℕ)) (old new : EitherLoader) : Type 0 where
  pub kind : reads_past new ≡ reads_past old
  pub answered : (answers : List Answer) → WasGiven tables answers old → WasGiven tables (answers ++ record { name = Some name; bytes = bytes } ∷ []) new
  pub within : budget_given new ≡ budget_given old
  -- a loader that refuses a file at fault wants a further name only after a file was read
  pub further : IfRefusing (λ loader. IsSome (wanted_of texts_of loader)) new → files_given new ≡ files_given old + 1

-- the loader was given the file of the name that it wanted when it was asked
pub record IsSupplied (bundle : Option Bundle) (found : ℕ) (bytes : List ℕ) (old new : EitherLoader) : Type 0 where
  pub asked : EitherLoader
  pub is_asked : IsAsked old asked
  pub name : List ℕ
  pub wanted : name_wanted asked ≡ Some name
  pub answered : IsAnswered (tables_in bundle) name (file_for bundle name found bytes) old new

-- memory ran out while a file was supplied past faults: the answers and the budget stay, and so does a name that is wanted
pub record IsStillPast (old new : SalvageLoader NameCopies) : Type 0 where
  pub reads : (tables : Option PrefixTables) (answers : List Answer) → ReadsPast texts_of tables answers old → ReadsPast texts_of tables answers new
  pub within : budget_in new ≡ budget_in old
  pub wanted : IsSome (wanted_name texts_of old) → wanted_name texts_of new ≡ wanted_name texts_of old

-- memory ran out while a file was supplied; a loader that refuses a file at fault wanted one, and a caller sees no difference
abbrev pub IsStill : EitherLoader → EitherLoader → Type 0
IsStill (Refusing old) (Refusing new) = IsSome (wanted_of texts_of old) × IsUnchanged texts_of old new
IsStill (Refusing old) (PastFaults new) = ⊥
IsStill (PastFaults old) (Refusing new) = ⊥
IsStill (PastFaults old) (PastFaults new) = IsStillPast old new

-- ---- results
-- the layers are what the loader gives by the answers that it was given; past faults together with the faults that it found
abbrev pub Gives : EitherLoader → List Layer → Type 0
Gives (Refusing loader) layers = FitsBy texts_of loader × AreLoadedBy texts_of loader layers
Gives (PastFaults loader) layers = IsSalvagedBy texts_of loader layers

-- the loader wants no further file when it is asked, and then gives these layers
pub record GivesAsked (loader : EitherLoader) (layers : List Layer) : Type 0 where
  pub asked : EitherLoader
  pub is_asked : IsAsked loader asked
  pub all : WantsNone asked
  pub gives : Gives asked layers

-- the names and the cause of the refusal: the names lead to the file at fault, by the answers that the loader was given
pub record IsFaultOf (loader : Loader NameCopies) (names : List (List ℕ)) (cause : Cause) : Type 0 where
  pub refused : refusal_of texts_of loader ≡ Some (record { names = names; cause = cause })
  pub blames : IsRefusedBy texts_of loader (record { names = names; cause = cause })

-- a loader past faults never refuses a file
abbrev pub LeadsToFaultBy : EitherLoader → List (List ℕ) → Cause → Type 0
LeadsToFaultBy (Refusing loader) names cause = IsFaultOf loader names cause
LeadsToFaultBy (PastFaults loader) names cause = ⊥

-- the faults that the loader found are those of the first file, together with some layers, by the answers that it was given
pub record AreFound (loader : SalvageLoader NameCopies) : Type 0 where
  pub by : (tables : Option PrefixTables) (answers : List Answer) (top : List ℕ) → ReadsPast texts_of tables answers loader → bytes_at answers 0 ≡ Some top
      → (layers : List Layer) × SalvagesMap tables (IsGiven answers) top (budget_in loader) layers (faults_of texts_of loader)

-- the loader reads past faults, wants no further file, and found faults with this property
abbrev pub HasFaults : EitherLoader → (List NamedFault → Type 0) → Type 0
HasFaults (Refusing loader) P = ⊥
HasFaults (PastFaults loader) P = (is_settled loader ≡ true) × AreFound loader × P (faults_of texts_of loader)

-- the loader refuses a file at fault, or it wants a file
abbrev pub HasNoFaults : EitherLoader → Type 0
HasNoFaults (Refusing loader) = Unit {0}
HasNoFaults (PastFaults loader) = IsSome (wanted_name texts_of loader)

-- ---- private aid
-- the files of a loader, and its next step, are right
abbrev pub IsRight : EitherLoader → Type 0
IsRight (Refusing loader) = IsLoading texts_of AreNumbered loader
IsRight (PastFaults loader) = IsSalvaging texts_of AreNumbered loader

-- the loader knows the name that it wants, or that it wants none
abbrev pub Wants : Bool → EitherLoader → Type 0
Wants true loader = IsSome (name_wanted loader)
Wants false loader = WantsNone loader

abbrev pub has_refused : EitherLoader → Bool
has_refused (Refusing loader) = is_some (refusal_of texts_of loader)
has_refused (PastFaults loader) = false

abbrev pub ShowsFaults : EitherLoader → ShownFaults → Type 0
ShowsFaults loader shown = HasFaults loader (λ faults. AreFaultsShown faults shown)

-- the end of a loader that wants no further file: the map, or what C is told; a loader stays in its handle only if a file is refused
abbrev pub IsFinished : EitherLoader → Option EitherLoader → Result (List Layer) (Fault Told) → Type 0
IsFinished loader left (Ok map) = Gives loader map × (left ≡ None)
IsFinished loader left (Err fault.Memory) = left ≡ None
IsFinished loader left (Err (fault.Refused told)) = IsToldWith (LeadsToFaultBy loader) told × (left ≡ Some loader)
