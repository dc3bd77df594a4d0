-- How a part at a fault of a text is read, by the bytes before the fault.
--
-- A reading that these definitions give is right. The fault `TextExpected` lies behind the token in place of the text or,
-- in rows, behind the piece that begins the line after a short entry. So an empty string that doesn't begin its line is in
-- place of a text. The empty string is a whole token: a > after a < and blanks ends no other token, and neither does a )
-- right after a ( that no backslash precedes. The fault `UnequalLengths` lies behind the second code. The string before
-- that code on its line is the first code: a comment reaches to the end of the line, a string in parentheses would have its
-- ) between the two, and a << is followed by no string. A form feed counts as a line end, since a form feed ends comments.
use Rattle.std.specs.Prelude.{◌≡◌, ◌⊎◌, ◌<◌, ◌≤◌, ◌+◌, ◌/◌, ◌%◌, ◌==◌, ◌||◌, ℕ, Bool, false, List, ◌∷◌, [], ◌++◌, codes, count_by, length, take, IsTrue}
use Rattle.std.specs.Char.{is_ascii_hexdigit}
use Rattle.std.specs.List.{list_all}
use Rattle.cmap_tokens.specs.Ascii.{byte}
use Rattle.cmap_values.specs.declared.fault.Reason.TheVariants.{TextExpected, UnequalLengths}
use Rattle.cmap_values.specs.declared.fault.Stop.{Stop}
use Rattle.cmap_lint.specs.declared.read_as.ReadAs.{ReadAs}
use Rattle.cmap_lint.specs.declared.read_as.ReadAs.TheVariants.{EmptyText, ExtendedCode}

-- a white byte that ends neither a line nor a comment
abbrev pub is_blank : ℕ → Bool
is_blank b = b == 0 || (b == byte "\t" || b == byte " ")

abbrev pub AreBlank : List ℕ → Type 0
AreBlank bytes = IsTrue (list_all is_blank bytes)

-- a byte that ends a line or a comment, or escapes the next byte
abbrev pub ends_or_escapes : ℕ → Bool
ends_or_escapes b = b == byte "\n" || (b == byte "\u{c}" || (b == byte "\r" || b == byte "\\"))

-- the empty string, as () or < >
abbrev pub IsEmptyString : List ℕ → Type 0
IsEmptyString string = (string ≡ codes "()") ⊎ ((blanks : List ℕ) × (string ≡ byte "<" ∷ blanks ++ byte ">" ∷ []) × AreBlank blanks)

-- an empty string comes last, after another part on its line
abbrev pub EndInEmptyString : List ℕ → Type 0
EndInEmptyString bytes = (before blanks string : List ℕ) × (b : ℕ) × (bytes ≡ (before ++ b ∷ blanks) ++ string)
    × (is_blank b ≡ false) × (ends_or_escapes b ≡ false) × AreBlank blanks × IsEmptyString string

abbrev pub is_body : ℕ → Bool
is_body b = is_ascii_hexdigit b || is_blank b

-- two digits make a byte, and an odd last digit makes one too
abbrev pub bytes_of : ℕ → ℕ
bytes_of digits = digits / 2 + digits % 2

-- a string < digits > that stands for `count` bytes
abbrev pub IsHexString : List ℕ → ℕ → Type 0
IsHexString string count = (body : List ℕ) × (string ≡ byte "<" ∷ body ++ byte ">" ∷ []) × IsTrue (list_all is_body body)
    × (count ≡ bytes_of (count_by is_ascii_hexdigit body))

abbrev pub EndWith : List ℕ → ℕ → Type 0
EndWith bytes b = (before : List ℕ) × (bytes ≡ before ++ b ∷ [])

-- two hexadecimal strings on a line come last, the second of which has more bytes; no < stands right before the first string
abbrev pub EndInLongerCode : List ℕ → Type 0
EndInLongerCode bytes = (before low blanks high : List ℕ) × (m n : ℕ) × (bytes ≡ ((before ++ low) ++ blanks) ++ high)
    × IsHexString low m × IsHexString high n × AreBlank blanks × (0 < m) × (m < n) × (EndWith before (byte "<") → ⊥)

-- the reading of the part at a fault of a text
abbrev pub IsReadAs : List ℕ → Stop → ReadAs → Type 0
IsReadAs text fault EmptyText = (fault.reason ≡ TextExpected) × (fault.offset ≤ length text) × EndInEmptyString (take fault.offset text)
IsReadAs text fault ExtendedCode = (fault.reason ≡ UnequalLengths) × (fault.offset ≤ length text) × EndInLongerCode (take fault.offset text)

-- the numbers of the readings in the C interface; no reading has the number 0
abbrev pub number : ReadAs → ℕ
number EmptyText = 1
number ExtendedCode = 2

-- ---- aids
-- the bytes end in blanks after the rest, and the rest doesn't end in a blank
abbrev pub IsTrimmed : List ℕ → List ℕ → Type 0
IsTrimmed bytes rest = (blanks : List ℕ) × (bytes ≡ rest ++ blanks) × AreBlank blanks × ((before : List ℕ) (b : ℕ) → rest ≡ before ++ b ∷ [] → is_blank b ≡ false)

-- the bytes are `before` and an empty string at the end
abbrev pub AreBeforeEmpty : List ℕ → List ℕ → Type 0
AreBeforeEmpty bytes before = (bytes ≡ (before ++ byte "(" ∷ []) ++ byte ")" ∷ [])
    ⊎ ((blanks : List ℕ) × (bytes ≡ (before ++ byte "<" ∷ blanks) ++ byte ">" ∷ []) × AreBlank blanks)

-- the bytes are `before` and a hexadecimal string with this number of digits at the end
abbrev pub AreBeforeDigits : List ℕ → List ℕ → ℕ → Type 0
AreBeforeDigits bytes before digits = (body : List ℕ) × (bytes ≡ (before ++ byte "<" ∷ body) ++ byte ">" ∷ []) × IsTrue (list_all is_body body) × (digits ≡ count_by is_ascii_hexdigit body)
