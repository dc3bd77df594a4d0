-- How the arguments begin with options: the name of each, and after it a number.
use Rattle.std.specs.Prelude.{◌≡◌, ℕ, List, ◌∷◌, ◌⊎◌, codes, Option, Some, None}
use Rattle.std.specs.Str.Parse.{digits_value}
use Rattle.cmap_queries.specs.Decimals.{SpellsNumber}

-- the arguments are the option's name, this argument, and these others
abbrev pub BeginWith : List ℕ → List (List ℕ) → List ℕ → List (List ℕ) → Type 0
BeginWith name arguments value others = arguments ≡ name ∷ value ∷ others

-- the arguments begin with the option and its number, and these follow; or they don't begin with the option, and all of them are left
abbrev pub SpellsOption : List ℕ → List (List ℕ) → Option ℕ → List (List ℕ) → Type 0
SpellsOption name arguments (Some number) rest = (digits : List ℕ) × BeginWith name arguments digits rest × SpellsNumber digits × (number ≡ digits_value 10 digits)
SpellsOption name arguments None rest = (rest ≡ arguments) × ((value : List ℕ) (others : List (List ℕ)) → BeginWith name arguments value others → ⊥)

-- the arguments begin with the option, and the argument after its name spells no number
abbrev pub SpellsNoNumber : List ℕ → List (List ℕ) → Type 0
SpellsNoNumber name arguments = (value : List ℕ) × (others : List (List ℕ)) × BeginWith name arguments value others × (SpellsNumber value → ⊥)

-- how many bytes of the input are a bundle, then how many bytes the files may have, then these arguments
abbrev pub SpellsOptions : List (List ℕ) → Option ℕ → Option ℕ → List (List ℕ) → Type 0
SpellsOptions arguments bundle budget rest = (after : List (List ℕ)) × SpellsOption (codes "--bundle") arguments bundle after × SpellsOption (codes "--budget") after budget rest

-- one of these options has an argument that spells no number
abbrev pub SpellsNoOptions : List (List ℕ) → Type 0
SpellsNoOptions arguments = SpellsNoNumber (codes "--bundle") arguments
    ⊎ ((bundle : Option ℕ) × (after : List (List ℕ)) × SpellsOption (codes "--bundle") arguments bundle after × SpellsNoNumber (codes "--budget") after)
