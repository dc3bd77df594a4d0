-- How an argument spells a character code, and what is asked of it.
use Rattle.std.specs.Prelude.{◌≡◌, ℕ, ◌+◌, ◌*◌, ◌≤◌, List, [], ◌∷◌, ◌++◌, codes, length}
use Rattle.std.specs.Str.Parse.{AllDigits, digits_value}
use Rattle.cmap_queries.specs.declared.query.Asked.{Asked}
use Rattle.cmap_queries.specs.declared.query.Asked.TheVariants.{Cid, Text}

-- the character `0`
abbrev pub zero_digit : ℕ
zero_digit = 48

-- the character `:`
abbrev pub colon : ℕ
colon = 58

-- a CID is asked of codes of one to four bytes, and a text of each code
abbrev pub IsAskable : Asked → Type 0
IsAskable (Cid byte_len) = (1 ≤ byte_len) × (byte_len ≤ 4)
IsAskable Text = Unit {0}

-- what stands before the colon: the number of bytes, or `bf`
abbrev pub asked_name : Asked → List ℕ
asked_name (Cid byte_len) = (zero_digit + byte_len) ∷ []
asked_name Text = codes "bf"

-- how many digits stand after the colon: two for each byte, or one to eight
abbrev pub HasDigitCount : Asked → ℕ → Type 0
HasDigitCount (Cid byte_len) count = count ≡ 2 * byte_len
HasDigitCount Text count = (1 ≤ count) × (count ≤ 8)

-- the argument is `L:HEX`, with 2L hexadecimal digits, for the CID of a code of L bytes, or `bf:HEX`, with one to eight, for the text of a code
pub record SpellsQuery (asked : Asked) (code : ℕ) (argument : List ℕ) : Type 0 where
  pub digits : List ℕ
  pub known : IsAskable asked
  pub parts : argument ≡ asked_name asked ++ colon ∷ digits
  pub count : HasDigitCount asked (length digits)
  pub hexadecimal : AllDigits 16 digits
  pub value : code ≡ digits_value 16 digits

-- the argument asks nothing of any code
abbrev pub SpellsNoQuery : List ℕ → Type 0
SpellsNoQuery argument = (asked : Asked) → (code : ℕ) → ¬ SpellsQuery asked code argument
