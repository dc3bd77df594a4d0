-- How the arguments spell a request.
use Rattle.std.specs.Prelude.{◌≡◌, ℕ, List, [], ◌∷◌, codes}
use Rattle.std.specs.Str.Parse.{digits_value}
use Rattle.cmap_queries.specs.Decimals.{SpellsNumber}
use Rattle.cmap_query.specs.declared.bench.request.Mode.{Mode}
use Rattle.cmap_query.specs.declared.bench.request.Mode.TheVariants.{Parse, Lookup, Bf, Decode}

-- the argument that names a mode
abbrev pub mode_argument : Mode → List ℕ
mode_argument Parse = codes "parse"
mode_argument Lookup = codes "lookup"
mode_argument Bf = codes "bf"
mode_argument Decode = codes "decode"

-- the arguments are a mode, a path and a number in decimal digits, which fits in 64 bits
pub record SpellsRequest (mode : Mode) (path : List ℕ) (rounds : ℕ) (arguments : List (List ℕ)) : Type 0 where
  pub digits : List ℕ
  pub three : arguments ≡ mode_argument mode ∷ path ∷ digits ∷ []
  pub decimal : SpellsNumber digits
  pub value : rounds ≡ digits_value 10 digits

-- the arguments spell no request
abbrev pub SpellsNoRequest : List (List ℕ) → Type 0
SpellsNoRequest arguments = (mode : Mode) (path : List ℕ) (rounds : ℕ) → ¬ SpellsRequest mode path rounds arguments
