-- Tokens, and the tokens of a text. PostScript Language Reference, third edition, 3.2, without base-85 strings, # escapes and immediately evaluated names.
use Rattle.std.specs.Prelude.{◌≡◌, ℕ, ◌+◌, ◌-◌, ◌<◌, ◌||◌, ◌==◌, Bool, true, false, List, [], ◌∷◌, ◌++◌, ◌⊎◌, length, codes, Option, Some, None, IsTrue, if◌then◌else◌}
use Rattle.std.specs.List.{list_any, list_all}
use Rattle.std.specs.Option.{option_map_or}
use Rattle.std.specs.Char.{is_digit}
use Rattle.cmap_tokens.specs.Ascii.{byte}
use Rattle.cmap_tokens.specs.Bytes.{begins, is_white, is_regular}
use Rattle.cmap_tokens.specs.Gaps.{IsGap, IsBlank}
use Rattle.cmap_tokens.specs.Numbers.{Number, numeral}

-- a token: a name, literal or executable, with its bytes after the slash; a string, with its brackets; a number
pub data Token : Type 0 where
  Name : Bool → List ℕ → Token
  String : List ℕ → Token
  Numeral : Number → Token

-- one or more regular bytes
abbrev pub IsRegularRun : List ℕ → Type 0
IsRegularRun text = (0 < length text) × IsTrue (list_all is_regular text)

-- a run that spells a number is this number; any other run is an executable name
abbrev pub name_or_number : List ℕ → Token
name_or_number run = option_map_or Numeral (numeral run) (Name false run)

-- [ ] { }
abbrev pub is_bracket : ℕ → Bool
is_bracket b = list_any (λ c. b == c) (codes "[]{}")

-- a bracket: [ ] { } << >>
abbrev pub IsBracket : List ℕ → Type 0
IsBracket piece = ((b : ℕ) × (piece ≡ b ∷ []) × IsTrue (is_bracket b)) ⊎ ((piece ≡ codes "<<") ⊎ (piece ≡ codes ">>"))

-- digits and white bytes
abbrev pub is_hex_body : ℕ → Bool
is_hex_body b = is_white b || is_digit b 16

-- < digits >, perhaps with white bytes among the digits
abbrev pub IsHexString : List ℕ → Type 0
IsHexString piece = (body : List ℕ) × (piece ≡ byte "<" ∷ body ++ byte ">" ∷ []) × IsTrue (list_all is_hex_body body)

-- the state within ( .. ): whether the last byte is a backslash that escapes the next one, and how many parentheses are open
pub record Inside : Type 0 where
  pub escaped : Bool
  pub depth : ℕ

-- the state after one more byte; None after the ) that closes the first parenthesis
abbrev pub after_byte : Inside → ℕ → Option Inside
after_byte state b =
    if state.escaped then Some (record { escaped = false; depth = state.depth })
    else if b == byte "\\" then Some (record { escaped = true; depth = state.depth })
    else if b == byte "(" then Some (record { escaped = false; depth = state.depth + 1 })
    else if b == byte ")" then (if state.depth == 1 then None else Some (record { escaped = false; depth = state.depth - 1 }))
    else Some (record { escaped = false; depth = state.depth })

-- from this state the last byte closes the first parenthesis, and no earlier byte does
abbrev pub closes_at_end : Option Inside → List ℕ → Bool
closes_at_end None bytes = length bytes == 0
closes_at_end (Some state) [] = false
closes_at_end (Some state) (b ∷ bytes) = closes_at_end (after_byte state b) bytes

-- ( .. ), where the last byte closes the first parenthesis
abbrev pub IsTextString : List ℕ → Type 0
IsTextString piece = (bytes : List ℕ) × (piece ≡ byte "(" ∷ bytes) × IsTrue (closes_at_end (Some (record { escaped = false; depth = 1 })) bytes)

-- a string with its brackets
abbrev pub IsString : List ℕ → Type 0
IsString piece = IsHexString piece ⊎ IsTextString piece

-- a whole piece of text is this token
abbrev pub IsToken : List ℕ → Token → Type 0
IsToken piece token =
    (IsRegularRun piece × (token ≡ name_or_number piece))
    ⊎ (((name : List ℕ) × (piece ≡ byte "/" ∷ name) × IsTrue (list_all is_regular name) × (token ≡ Name true name))
    ⊎ ((IsBracket piece × (token ≡ Name false piece))
    ⊎ (IsString piece × (token ≡ String piece))))

-- a name or a number begins with a regular byte or /
abbrev pub begins_name : List ℕ → Bool
begins_name text = begins (λ b. is_regular b || b == byte "/") text

-- the text is a gap, then a piece that is this token and as long as possible, then the rest
pub record Front (text gap piece : List ℕ) (token : Token) (rest : List ℕ) : Type 0 where
  pub whole : text ≡ gap ++ piece ++ rest
  pub gap_is : IsGap gap
  pub piece_is : IsToken piece token
  pub longest : IsTrue (begins_name piece) → begins is_regular rest ≡ false

-- a token comes next in the text
abbrev pub HasFront : List ℕ → Type 0
HasFront text = (gap piece rest : List ℕ) × (token : Token) × Front text gap piece token rest

-- no token comes next in the text
abbrev pub HasNoFront : List ℕ → Type 0
HasNoFront text = (gap piece rest : List ℕ) (token : Token) → Front text gap piece token rest → ⊥

-- no token comes next in the text, and the text isn't blank
abbrev pub IsMalformed : List ℕ → Type 0
IsMalformed text = (IsBlank text → ⊥) × HasNoFront text

-- all the tokens of a text, in order
abbrev pub Tokens : List ℕ → List Token → Type 0
Tokens text [] = IsBlank text
Tokens text (token ∷ tokens) = (gap piece rest : List ℕ) × Front text gap piece token rest × Tokens rest tokens
