-- The bytes that a string token stands for. PostScript Language Reference, third edition, 3.2.2.
use Rattle.std.specs.Prelude.{◌≡◌, ℕ, ◌+◌, ◌-◌, ◌*◌, ◌%◌, ◌^◌, ◌<◌, ◌≤◌, ◌||◌, ◌==◌, ◌⊎◌, Bool, false, List, [], ◌∷◌, ◌++◌, codes, length, take, drop, map, filter, IsTrue, if◌then◌else◌}
use Rattle.std.specs.Int.Digits.{number_from_digits}
use Rattle.std.specs.List.{AllByRecursion, list_all}
use Rattle.std.specs.Char.{digit_value, is_digit}
use Rattle.cmap_tokens.specs.Ascii.{byte}
use Rattle.cmap_tokens.specs.Bytes.{begins}
use Rattle.cmap_tokens.specs.Numbers.{are_digits, digits_number}
use Rattle.cmap_tokens.specs.Tokens.{IsHexString, IsTextString}

-- two digits make a byte; an odd last digit counts as if 0 followed it
abbrev pub digit_pairs : List ℕ → List ℕ
digit_pairs [] = []
digit_pairs (high ∷ []) = 16 * high ∷ []
digit_pairs (high ∷ low ∷ digits) = (16 * high + low) ∷ digit_pairs digits

-- the bytes of < body >; white bytes are ignored
abbrev pub hex_value : List ℕ → List ℕ
hex_value body = digit_pairs (map digit_value (filter (λ b. is_digit b 16) body))

-- the byte that an escape means: \n \r \t \b \f, and any other byte means itself
abbrev pub escape_value : ℕ → ℕ
escape_value c =
    if c == byte "n" then byte "\n"
    else if c == byte "r" then byte "\r"
    else if c == byte "t" then byte "\t"
    else if c == byte "b" then byte "\u{8}"
    else if c == byte "f" then byte "\u{c}"
    else c

-- CR LF, LF, or a CR that no LF follows
abbrev pub IsLineEnd : List ℕ → List ℕ → Type 0
IsLineEnd text next = (text ≡ codes "\r\n") ⊎ ((text ≡ codes "\n") ⊎ ((text ≡ codes "\r") × (begins (λ b. b == byte "\n") next ≡ false)))

abbrev pub is_line_byte : ℕ → Bool
is_line_byte b = b == byte "\n" || b == byte "\r"

-- a part of the body of ( .. ), the bytes that it stands for, and what follows it
pub data IsPart : List ℕ → List ℕ → List ℕ → Type 0 where
  plain : (b : ℕ) (next : List ℕ) → b == byte "\\" || is_line_byte b ≡ false → IsPart (b ∷ []) (b ∷ []) next
  line_end : (text next : List ℕ) → IsLineEnd text next → IsPart text (byte "\n" ∷ []) next
  escaped : (c : ℕ) (next : List ℕ) → is_digit c 8 || is_line_byte c ≡ false → IsPart (byte "\\" ∷ c ∷ []) (escape_value c ∷ []) next
  -- three octal digits, or fewer if no further octal digit follows
  octal : (digits next : List ℕ) → IsTrue (are_digits 8 digits) → length digits ≤ 3 → (length digits ≡ 3) ⊎ (begins (λ b. is_digit b 8) next ≡ false) → IsPart (byte "\\" ∷ digits) (digits_number 8 digits % 256 ∷ []) next
  -- a backslash before the end of a line removes the line end
  continued : (text next : List ℕ) → IsLineEnd text next → IsPart (byte "\\" ∷ text) [] next

-- the body of ( .. ) consists of these parts, each with its bytes, and stands for the bytes of all parts in order
abbrev pub IsCut : List (List ℕ × List ℕ) → List ℕ → List ℕ → Type 0
IsCut [] body value = (body ≡ []) × (value ≡ [])
IsCut (part ∷ parts) body value = (next more : List ℕ) × (body ≡ part.0 ++ next) × (value ≡ part.1 ++ more) × IsPart part.0 part.1 next × IsCut parts next more

-- the bytes of a piece between its first and its last byte
abbrev pub inside : List ℕ → List ℕ
inside piece = drop 1 (take (length piece - 1) piece)

-- the bytes that a string token stands for; a piece that is no string stands for no bytes
abbrev pub IsValue : List ℕ → List ℕ → Type 0
IsValue piece value =
    (IsHexString piece × (value ≡ hex_value (inside piece)))
    ⊎ (IsTextString piece × (parts : List (List ℕ × List ℕ)) × IsCut parts (inside piece) value)

-- one to four pairs of hexadecimal digits, with nothing between them
abbrev pub ArePairs : List ℕ → Type 0
ArePairs digits = IsTrue (list_all (λ c. is_digit c 16) digits) × (length digits % 2 ≡ 0) × (0 < length digits) × (length digits ≤ 8)

-- < one to four pairs of hexadecimal digits >
abbrev pub IsPlain : List ℕ → Type 0
IsPlain piece = IsHexString piece × ArePairs (inside piece)

-- the piece stands for these bytes and for no others
pub record IsOnlyValue (piece value : List ℕ) : Type 0 where
  pub holds : IsValue piece value
  pub alone : (other : List ℕ) → IsValue piece other → other ≡ value

-- the only value of the piece has two bytes, whose big-endian number is this number
abbrev pub WritesTwoBytes : List ℕ → ℕ → Type 0
WritesTwoBytes piece number = (value : List ℕ) × IsOnlyValue piece value × AllByRecursion (λ b. b < 2 ^ 8) value × (length value ≡ 2) × (number ≡ number_from_digits 256 value)

-- the only value of the piece has count bytes, whose big-endian number is this number
abbrev pub WritesBytes : List ℕ → ℕ → ℕ → Type 0
WritesBytes piece count number = (value : List ℕ) × IsOnlyValue piece value × AllByRecursion (λ b. b < 2 ^ 8) value × (count ≡ length value) × (number ≡ number_from_digits 256 value)

-- the only value of the piece has count bytes; high is the big-endian number of the first four bytes, and low is the big-endian number of the other bytes
abbrev pub WritesParts : List ℕ → ℕ → ℕ → ℕ → Type 0
WritesParts piece count high low =
    (front rest : List ℕ)
    × IsOnlyValue piece (front ++ rest)
    × AllByRecursion (λ b. b < 2 ^ 8) front
    × AllByRecursion (λ b. b < 2 ^ 8) rest
    × (length front ≡ 4)
    × (count ≡ 4 + length rest)
    × (high ≡ number_from_digits 256 front)
    × (low ≡ number_from_digits 256 rest)
