-- The byte that shows that no token comes next in a text.
use Rattle.std.specs.Prelude.{◌≡◌, ℕ, ◌+◌, ◌^◌, ◌<◌, ◌≤◌, List, ◌++◌, length, take}
use Rattle.std.specs.List.{AllByRecursion}
use Rattle.cmap_tokens.specs.Scanner.{Cursor, rest_of}
use Rattle.cmap_tokens.specs.Tokens.{HasFront, HasNoFront}

-- these bytes and some further bytes are together a text in which a token comes next
abbrev pub AllowsToken : List ℕ → Type 0
AllowsToken front = (more : List ℕ) × AllByRecursion (λ b. b < 2 ^ 8) more × HasFront (front ++ more)

-- no token comes next, whatever follows these bytes
abbrev pub ExcludesToken : List ℕ → Type 0
ExcludesToken front = (more : List ℕ) → HasNoFront (front ++ more)

-- the offset of the first byte of a text that excludes a token: the bytes up to and including this byte exclude a token, and each shorter prefix allows one. If no byte excludes a token, the offset is the length of the text
pub record IsStop (text : List ℕ) (offset : ℕ) : Type 0 where
  pub within : offset ≤ length text
  pub excludes : offset < length text → ExcludesToken (take (1 + offset) text)
  pub first : (n : ℕ) → n ≤ offset → AllowsToken (take n text)

-- the stop of the rest of the source, as an offset in the whole source
abbrev pub StopsAt : Cursor → ℕ → Type 0
StopsAt cursor offset = (n : ℕ) × (offset ≡ cursor.passed + n) × IsStop (rest_of cursor) n
