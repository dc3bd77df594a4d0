-- The known facts about files, by the answers to the names of the files that other files use.
use Rattle.std.specs.Prelude.{◌≡◌, ℕ, zero, suc, ◌<◌, ◌≤◌, ◌⊎◌, Bool, true, false, List, [], ◌∷◌, ◌++◌, Contains, length, sum, bytes_eq, MatchOption, Option, Some, None, option_and_then, slice_get, if◌then◌else◌}
use Rattle.cmap_values.specs.Files.{File}
use Rattle.cmap_values.specs.Only.{IsOnly, HoldsOfNone}
use Rattle.cmap_binary.specs.Bundles.{PrefixTables}
use Rattle.cmap_layers.specs.Layers.{Layer}
use Rattle.cmap_load.specs.Budgets.{IsOver, OpensEach, OpensEachFirst, OpensUse, OpensUseFirst, PassesAt, Trail}
use Rattle.cmap_load.specs.BytesSpent.{Leaves}
use Rattle.cmap_load.specs.Layers.{AreLayers, Means}
use Rattle.cmap_load.specs.Refusals.{IsFault, IsOwnFault}
use Rattle.cmap_load.specs.declared.refusal.Cause.{Cause}
use Rattle.cmap_load.specs.declared.refusal.Cause.TheVariants.{Malformed, NoFile, ChainLength, OverBudget}

-- ---- answers
-- a name that was asked for, and the bytes of its file, if there is one; the first file has no name
pub record Answer : Type 0 where
  pub name : Option (List ℕ)
  pub bytes : Option (List ℕ)

abbrev pub is_of_name : Option (List ℕ) → List ℕ → Bool
is_of_name None name = false
is_of_name (Some answered) name = bytes_eq answered name

-- the first answer to a name
abbrev pub first_answer : List Answer → List ℕ → Option (Option (List ℕ))
first_answer [] name = None
first_answer (answer ∷ answers) name = if is_of_name answer.name name then Some answer.bytes else first_answer answers name

-- these bytes were answered to this name
abbrev pub IsAnswered : List Answer → List ℕ → Option (List ℕ) → Type 0
IsAnswered answers name bytes = first_answer answers name ≡ Some bytes

-- each answer of the first relation is an answer of the other relation too
abbrev pub Agrees : (List ℕ → Option (List ℕ) → Type 0) → (List ℕ → Option (List ℕ) → Type 0) → Type 0
Agrees answer other = (name : List ℕ) (bytes : Option (List ℕ)) → answer name bytes → other name bytes

-- the bytes of the file at an index
abbrev pub bytes_at : List Answer → ℕ → Option (List ℕ)
bytes_at answers i = option_and_then (λ answer. answer.bytes) (slice_get answers i)

-- there are bytes, and P holds of them
abbrev pub OfBytes : Option (List ℕ) → (List ℕ → Type 0) → Type 0
OfBytes given P = (bytes : List ℕ) × (given ≡ Some bytes) × P bytes

-- this is the index of the first answer to a name, if the name has an answer
abbrev pub IsFound : List Answer → List ℕ → Option ℕ → Type 0
IsFound answers name found = MatchOption found (first_answer answers name ≡ None) (λ i. (i < length answers) × (first_answer answers name ≡ Some (bytes_at answers i)))

-- ---- files that mean one thing alone
module _ (tables : Option PrefixTables) where
  -- bytes mean this file alone
  abbrev pub MeansOnly : List ℕ → File → Type 0
  MeansOnly bytes = IsOnly (Means tables bytes)

  module _ (answer : List ℕ → Option (List ℕ) → Type 0) where
    -- the files that a file opens, as `Opens` defines them, if each file that is opened means one thing alone, or nothing
    abbrev pub OpensOnly : ℕ → List ℕ → Trail → Type 0
    OpensOnly zero bytes trail = ⊥
    OpensOnly (suc most) bytes trail = (HoldsOfNone (Means tables bytes) × (trail ≡ (length bytes ∷ [], true)))
        ⊎ ((file : File) × (rest : Trail) × MeansOnly bytes file × OpensEach (OpensUse answer (OpensOnly most) most) file.uses rest
        × (trail ≡ (length bytes ∷ rest.0, rest.1)))

    -- the first files that are opened, as `OpensFirst` defines them, with the same condition
    abbrev pub OpensOnlyFirst : ℕ → List ℕ → List (List ℕ) → List ℕ → Type 0
    OpensOnlyFirst zero bytes names lengths = ⊥
    OpensOnlyFirst (suc most) bytes names lengths = ((names ≡ []) × (lengths ≡ length bytes ∷ []))
        ⊎ ((file : File) × (rest : List ℕ) × MeansOnly bytes file
        × OpensEachFirst (OpensUse answer (OpensOnly most) most) (OpensUseFirst answer (OpensOnlyFirst most) most) file.uses names rest
        × (lengths ≡ length bytes ∷ rest))

  module _ (answers : List Answer) where
    -- a file is opened whole, with all that it uses: these are the lengths of the files
    pub record IsWhole (most : ℕ) (bytes : List ℕ) (lengths : List ℕ) : Type 0 where
      pub opened : OpensOnly (IsAnswered answers) most bytes (lengths, false)

    -- uses are opened whole, one after another: these are the lengths of the files
    pub record AreWhole (room : ℕ) (uses : List (List ℕ)) (lengths : List ℕ) : Type 0 where
      pub opened : OpensEach (OpensUse (IsAnswered answers) (OpensOnly (IsAnswered answers) room) room) uses (lengths, false)

    -- a file uses this name, after other uses that are whole; at most this many files may stand in a chain under the file
    pub record Uses (room : ℕ) (bytes name lengths : List ℕ) : Type 0 where
      pub file : File
      pub only : MeansOnly bytes file
      pub before : List (List ℕ)
      pub after : List (List ℕ)
      pub split : file.uses ≡ before ++ name ∷ after
      pub whole : AreWhole room before lengths

    -- a file among the answers uses this name, and the name has no answer yet
    abbrev pub IsWanted : List ℕ → Type 0
    IsWanted name = ((i : ℕ) × (i < length answers) × OfBytes (bytes_at answers i) (λ bytes. (file : File) × MeansOnly bytes file × Contains file.uses name)) × (first_answer answers name ≡ None)

    module _ (budget : Option ℕ) (first : List ℕ) where
      -- the files that are opened for the first file are within the budget
      pub record IsWithin : Type 0 where
        pub lengths : List ℕ
        pub whole : IsWhole 16 first lengths
        pub within : IsOver budget (sum lengths) → ⊥

      -- the names lead from the first file to a file at fault, and the files that are opened up to this file are within the budget
      pub record IsFaulty (names : List (List ℕ)) (cause : Cause) : Type 0 where
        pub fault : IsFault tables (IsAnswered answers) 16 first names cause
        pub lengths : List ℕ
        pub broken : OpensOnly (IsAnswered answers) 16 first (lengths, true)
        pub within : IsOver budget (sum lengths) → ⊥

      -- the names lead from the first file to a file at fault, or to the first file that exceeds the budget
      abbrev pub IsRefusal : List (List ℕ) → Cause → Type 0
      IsRefusal names OverBudget = PassesAt (OpensOnlyFirst (IsAnswered answers) 16 first) budget names
      IsRefusal names cause = IsFaulty names cause

      -- the names lead from the first file to a file of these bytes; at most so many files may stand in its chain, the file itself counted; the files that are opened before it leave this rest of the budget
      pub record Leads (most : ℕ) (names : List (List ℕ)) (left : Option ℕ) (bytes : List ℕ) : Type 0 where
        pub some : 0 < most
        pub few : most ≤ 16
        pub lengths : List ℕ
        pub leaves : Leaves budget (sum lengths) left
        pub fault : (more : List (List ℕ)) (cause : Cause) → IsFault tables (IsAnswered answers) most bytes more cause → IsFault tables (IsAnswered answers) 16 first (names ++ more) cause
        pub broken : (rest : List ℕ) → OpensOnly (IsAnswered answers) most bytes (rest, true) → OpensOnly (IsAnswered answers) 16 first (lengths ++ rest, true)
        pub opened : (more : List (List ℕ)) (rest : List ℕ) → OpensOnlyFirst (IsAnswered answers) most bytes more rest → OpensOnlyFirst (IsAnswered answers) 16 first (names ++ more) (lengths ++ rest)

      -- the names lead from the first file to the file of an answer; without a file, its use is at fault
      abbrev pub LeadsToAnswer : List (List ℕ) → Option ℕ → Option (List ℕ) → Type 0
      LeadsToAnswer names left None = IsFaulty names NoFile
      LeadsToAnswer names left (Some bytes) = (most : ℕ) × Leads most names left bytes

-- ---- the budget
-- this may be left of the budget
abbrev pub IsLeft : Option ℕ → Option ℕ → Type 0
IsLeft budget left = (count : ℕ) × Leaves budget count left

-- files of count bytes together cost this, where there is a budget
abbrev pub IsCost : Option ℕ → ℕ → ℕ → Type 0
IsCost None count cost = Unit {0}
IsCost (Some budget) count cost = count ≡ cost

-- ---- one file
-- there is a file of so many bytes, and its bytes mean this file alone
abbrev pub IsOpened : Option PrefixTables → Option (List ℕ) → ℕ → File → Type 0
IsOpened tables given count file = OfBytes given (λ bytes. (count ≡ length bytes) × MeansOnly tables bytes file)

-- there is no file, or the file would exceed the rest of the budget, or it is outside the grammar
abbrev pub FailsToOpen : Option PrefixTables → Option (List ℕ) → Option ℕ → Cause → Type 0
FailsToOpen tables given left (Malformed stop) = OfBytes given (λ bytes. IsOwnFault tables (IsAnswered []) bytes (Malformed stop) × (IsOver left (length bytes) → ⊥))
FailsToOpen tables given left OverBudget = OfBytes given (λ bytes. IsOver left (length bytes))
FailsToOpen tables given left NoFile = given ≡ None
FailsToOpen tables given left ChainLength = ⊥

-- these are the layers of the first file, by the answers
pub record AreLoaded (tables : Option PrefixTables) (answers : List Answer) (layers : List Layer) : Type 0 where
  pub from : (bytes : List ℕ) → bytes_at answers 0 ≡ Some bytes → AreLayers (MeansOnly tables) (IsAnswered answers) 16 bytes layers
