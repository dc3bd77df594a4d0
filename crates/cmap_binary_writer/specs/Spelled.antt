-- Symbols that bits spell by the code words of a table, with nothing after them.
use Rattle.std.specs.Prelude.{◌≡◌, ℕ, ◌≤◌, ◌<◌, List, [], ◌∷◌, ◌++◌, All, Option, IfNone, length, replicate}
use Rattle.cmap_binary.specs.PrefixWords.{CodeWord, Decodes, IsWord, bits, bits_of}

-- the code words of these symbols, in order, and no more
abbrev pub IsSpelled : List CodeWord → List ℕ → List ℕ → Type 0
IsSpelled table [] stream = stream ≡ []
IsSpelled table (symbol ∷ symbols) stream = (len : ℕ) × (rest : List ℕ) × Decodes table stream symbol len rest × IsSpelled table symbols rest

-- the code words of these symbols, in order, and zeros up to the end of the last byte
pub record IsSpelledIn (table : List CodeWord) (symbols bytes : List ℕ) : Type 0 where
  pub stream : List ℕ
  pub rest : List ℕ
  pub spelled : IsSpelled table symbols stream
  pub bits_are : bits bytes ≡ stream ++ rest
  pub few : length rest < 8
  pub zeros : rest ≡ replicate (length rest) 0

-- the last len bits of a number are the code word of this symbol
pub record HasWord (table : List CodeWord) (symbol len value : ℕ) : Type 0 where
  pub index : ℕ
  pub is : IsWord table index (record { len = len; symbol = symbol }) (bits_of len value)
  pub most : len ≤ 32

-- no code word has this symbol
abbrev pub IsNoSymbol : List CodeWord → ℕ → Type 0
IsNoSymbol table symbol = All (λ w. w.symbol ≡ symbol → ⊥) table

abbrev pub IsNoWordOf : {A : Type 0} → List CodeWord → ℕ → Option A → Type 0
IsNoWordOf table symbol result = IfNone result (IsNoSymbol table symbol)
