-- Private aid: the layers of a file and of its uses, and the bytes that the files that are opened take from a budget.
use Rattle.std.specs.Prelude.{◌≡◌, ℕ, ◌+◌, List, Bool, true, false, sum, Option, Some, None}
use Rattle.cmap_values.specs.Files.{File}
use Rattle.cmap_values.specs.Only.{IsOnly, HoldsOfNone}
use Rattle.cmap_load.specs.Budgets.{IsOver, Trail, Opens, OpensFirst, OpensUse, OpensUseFirst, OpensEach, OpensEachFirst, PassesAt}
use Rattle.cmap_layers.specs.Layers.{Layer}
use Rattle.cmap_load.specs.Layers.{AreLayers, OfAnswer, IsBase}

-- count bytes leave this rest of the budget; without a budget, there is no rest
abbrev pub Leaves : Option ℕ → ℕ → Option ℕ → Type 0
Leaves None count left = left ≡ None
Leaves (Some budget) count None = ⊥
Leaves (Some budget) count (Some left) = left + count ≡ budget

-- the properties of a file by its bytes, of a use by its name, or of uses by their names: the layers, and the files that are opened
pub record About (Key : Type 0) : Type 1 where
  pub layers : Key → List Layer → Type 0
  pub opens : Key → Trail → Type 0
  pub opens_first : Key → List (List ℕ) → List ℕ → Type 0

-- at most this many files stand in a chain
abbrev pub of_file : (List ℕ → File → Type 0) → (List ℕ → Option (List ℕ) → Type 0) → ℕ → About (List ℕ)
of_file means answer most = record { layers = AreLayers means answer most; opens = Opens means answer most; opens_first = OpensFirst means answer most }

-- at most this many files stand in a chain under the file that has the use
abbrev pub of_use : (List ℕ → File → Type 0) → (List ℕ → Option (List ℕ) → Type 0) → ℕ → About (List ℕ)
of_use means answer most = record {
  layers = OfAnswer answer (AreLayers means answer most);
  opens = OpensUse answer (Opens means answer most) most;
  opens_first = OpensUseFirst answer (OpensFirst means answer most) most;
}

-- the last use gives the layers
abbrev pub of_uses : About (List ℕ) → About (List (List ℕ))
of_uses each = record { layers = IsBase each.layers; opens = OpensEach each.opens; opens_first = OpensEachFirst each.opens each.opens_first }

module _ {Key : Type 0} (about : About Key) (key : Key) where
  -- the files that are opened leave this rest of the budget; opening breaks off or not
  pub record Spends (broken : Bool) (budget left : Option ℕ) : Type 0 where
    pub lengths : List ℕ
    pub opened : IsOnly (about.opens key) (lengths, broken)
    pub leaves : Leaves budget (sum lengths) left

  -- the key has these layers alone, and the bytes of all files that are opened are spent
  pub record Resolves (layers : List Layer) (budget left : Option ℕ) : Type 0 where
    pub only : IsOnly (about.layers key) layers
    pub spent : Spends false budget left

  -- the key has no layers, and the bytes of all files that are opened up to the break are spent
  pub record Refuses (budget left : Option ℕ) : Type 0 where
    pub none : HoldsOfNone (about.layers key)
    pub spent : Spends true budget left

  -- the files that are opened for the key exceed the budget
  abbrev pub GoesOver : Option ℕ → Type 0
  GoesOver budget = (trail : Trail) → about.opens key trail → IsOver budget (sum trail.0)

  -- the file that the names lead to is the first file that exceeds the budget
  abbrev pub GoesOverAt : Option ℕ → List (List ℕ) → Type 0
  GoesOverAt budget names = PassesAt (about.opens_first key) budget names
