-- The files that reading a map opens, and a budget for their bytes.
use Rattle.std.specs.Prelude.{◌≡◌, ℕ, zero, suc, ◌<◌, Bool, true, false, List, [], ◌∷◌, ◌++◌, ◌⊎◌, length, sum, Option, Some, None}
use Rattle.cmap_values.specs.Files.{File}
use Rattle.cmap_values.specs.Only.{IsOnly, HoldsOfNone}
use Rattle.cmap_load.specs.Layers.{OfAnswer}

-- count bytes are more than the budget; without a budget, no count is more
abbrev pub IsOver : Option ℕ → ℕ → Type 0
IsOver None count = ⊥
IsOver (Some budget) count = budget < count

-- the lengths of the files that are opened, in order, and whether opening breaks off
abbrev pub Trail : Type 0
Trail = List ℕ × Bool

-- the files that are opened before the file that the names lead to are within the budget; together with this file they exceed the budget
pub record PassesAt (opens_first : List (List ℕ) → List ℕ → Type 0) (budget : Option ℕ) (names : List (List ℕ)) : Type 0 where
  pub before : List ℕ
  pub last : ℕ
  pub opened : opens_first names (before ++ last ∷ [])
  pub within : IsOver budget (sum before) → ⊥
  pub over : IsOver budget (sum (before ++ last ∷ []))

-- the first files that are opened exceed the budget, and so do all files that are opened
pub record Passes (opens : Trail → Type 0) (opens_first : List (List ℕ) → List ℕ → Type 0) (budget : Option ℕ) : Type 0 where
  pub first : (names : List (List ℕ)) × PassesAt opens_first budget names
  pub all : (trail : Trail) → opens trail → IsOver budget (sum trail.0)

-- the files that names open one after another, up to a name at which opening breaks off
abbrev pub OpensEach : (List ℕ → Trail → Type 0) → List (List ℕ) → Trail → Type 0
OpensEach opens [] trail = trail ≡ ([], false)
OpensEach opens (name ∷ names) trail = (opens name trail × (trail.1 ≡ true))
    ⊎ ((first : List ℕ) × (rest : Trail) × opens name (first, false) × OpensEach opens names rest × (trail ≡ (first ++ rest.0, rest.1)))

-- the files that uses open one after another, up to the file that some names lead to, whatever follows this file
abbrev pub OpensEachFirst : (List ℕ → Trail → Type 0) → (List ℕ → List (List ℕ) → List ℕ → Type 0) → List (List ℕ) → List (List ℕ) → List ℕ → Type 0
OpensEachFirst opens opens_first [] names lengths = ⊥
OpensEachFirst opens opens_first (used ∷ uses) names lengths = opens_first used names lengths
    ⊎ ((first rest : List ℕ) × opens used (first, false) × OpensEachFirst opens opens_first uses names rest × (lengths ≡ first ++ rest))

module _ (answer : List ℕ → Option (List ℕ) → Type 0) where
  -- the files that one use opens: if the chain would be too long or no file has the name, no files, and opening breaks off; else the files that its file opens
  abbrev pub OpensUse : (List ℕ → Trail → Type 0) → ℕ → List ℕ → Trail → Type 0
  OpensUse opens zero name trail = trail ≡ ([], true)
  OpensUse opens (suc room) name trail = (answer name None × (trail ≡ ([], true))) ⊎ OfAnswer answer opens name trail

  abbrev pub OpensUseFirst : (List ℕ → List (List ℕ) → List ℕ → Type 0) → ℕ → List ℕ → List (List ℕ) → List ℕ → Type 0
  OpensUseFirst opens_first zero name names lengths = ⊥
  OpensUseFirst opens_first (suc room) name names lengths = (below : List (List ℕ)) × (names ≡ name ∷ below) × OfAnswer answer (λ bytes. opens_first bytes below) name lengths

module _ (means : List ℕ → File → Type 0) (answer : List ℕ → Option (List ℕ) → Type 0) where
  -- a file is opened, then the files that it uses, each followed by the files that it uses in turn; opening breaks off at a file that means nothing
  abbrev pub Opens : ℕ → List ℕ → Trail → Type 0
  Opens zero bytes trail = ⊥
  Opens (suc most) bytes trail = (HoldsOfNone (means bytes) × (trail ≡ (length bytes ∷ [], true)))
      ⊎ ((file : File) × (rest : Trail) × means bytes file × OpensEach (OpensUse answer (Opens most) most) file.uses rest
      × (trail ≡ (length bytes ∷ rest.0, rest.1)))

  -- the files that are opened up to the file that the names lead to; each name is used by the file before it
  abbrev pub OpensFirst : ℕ → List ℕ → List (List ℕ) → List ℕ → Type 0
  OpensFirst zero bytes names lengths = ⊥
  OpensFirst (suc most) bytes names lengths = ((names ≡ []) × (lengths ≡ length bytes ∷ []))
      ⊎ ((file : File) × (rest : List ℕ) × means bytes file
      × OpensEachFirst (OpensUse answer (Opens most) most) (OpensUseFirst answer (OpensFirst most) most) file.uses names rest
      × (lengths ≡ length bytes ∷ rest))

  abbrev pub PassesBudget : ℕ → List ℕ → Option ℕ → Type 0
  PassesBudget most bytes budget = Passes (Opens most bytes) (OpensFirst most bytes) budget

  -- the files that are opened are one list, and not more than the budget
  abbrev pub StaysWithin : ℕ → List ℕ → Option ℕ → Type 0
  StaysWithin most bytes budget = (trail : Trail) × IsOnly (Opens most bytes) trail × (IsOver budget (sum trail.0) → ⊥)
