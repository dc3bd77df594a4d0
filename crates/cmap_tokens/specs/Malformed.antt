-- Malformed pieces of a text, where no token stands: the kind and the length of each piece.
use Rattle.std.specs.Prelude.{ℕ, ◌+◌, ◌-◌, ◌==◌, ◌||◌, ◌&&◌, nat_lt, Bool, List, [], ◌∷◌, codes, length, take, drop, if◌then◌else◌}
use Rattle.std.specs.List.{list_any, prefix_len}
use Rattle.std.specs.Char.{is_digit}
use Rattle.cmap_tokens.specs.Ascii.{byte}
use Rattle.cmap_tokens.specs.Bytes.{begins, is_regular}
use Rattle.cmap_tokens.specs.Tokens.{is_hex_body}

pub data Malformed : Type 0 where
  -- a ( that no ) balances up to the end of the text
  unclosed_text : Malformed
  -- a < that only digits and white bytes follow, up to the end of the text
  unclosed_hexadecimal : Malformed
  -- a byte in a hexadecimal string that is neither a digit nor white
  wrong_digit : Malformed
  -- a ) or a > alone
  stray : Malformed

-- the kind of a malformed hexadecimal string, from the bytes after its <
abbrev pub hexadecimal_kind : List ℕ → Malformed
hexadecimal_kind text = if prefix_len is_hex_body text == length text then unclosed_hexadecimal else wrong_digit

-- the kind of the malformed piece that begins a text
abbrev pub malformed_kind : List ℕ → Malformed
malformed_kind [] = stray
malformed_kind (b ∷ text) =
    if b == byte "<" then hexadecimal_kind text
    else if b == byte "(" then unclosed_text
    else stray

-- a byte that ends a line
abbrev pub ends_line : ℕ → Bool
ends_line b = b == byte "\n" || b == byte "\r"

-- how many hexadecimal digits end a text, where count digits stand right before the text
abbrev pub last_digits : ℕ → List ℕ → ℕ
last_digits count [] = count
last_digits count (b ∷ text) = last_digits (if is_digit b 16 then count + 1 else 0) text

-- the offset of the word with the wrong byte at the offset wrong: if the wrong byte is regular, the word begins with the digits right before it
abbrev pub wrong_word : ℕ → List ℕ → ℕ
wrong_word wrong text = if begins is_regular (drop wrong text) then wrong - last_digits 0 (take wrong text) else wrong

-- how many bytes of a hexadecimal string are left from the wrong byte on: up to and including a >, or up to a <, the end of the line or the end of the text
abbrev pub hex_left : List ℕ → ℕ
hex_left [] = 0
hex_left (b ∷ rest) = if b == byte ">" then 1 else if b == byte "<" then 0 else if ends_line b then 0 else 1 + hex_left rest

-- the length of a malformed hexadecimal string, where the wrong byte or the end of the text is at the offset wrong: if the wrong word stands on another line, the string ends before that word
abbrev pub hexadecimal_piece_len : ℕ → List ℕ → ℕ
hexadecimal_piece_len wrong text = if nat_lt wrong (length text) && list_any ends_line (take (wrong_word wrong text) text) then wrong_word wrong text else wrong + hex_left (drop wrong text)

-- the offset of the fault in a malformed hexadecimal string with its <, where the text is the part after the <
abbrev pub hexadecimal_fault_len : List ℕ → ℕ
hexadecimal_fault_len text = if prefix_len is_hex_body text == length text then 0 else 1 + prefix_len is_hex_body text

-- the offset of the fault in the malformed piece that begins a text
abbrev pub fault_len : List ℕ → ℕ
fault_len [] = 0
fault_len (b ∷ text) = if b == byte "<" then hexadecimal_fault_len text else if b == byte ">" then 1 else 0

-- the length of the malformed piece that begins a text, in bytes
abbrev pub malformed_piece_len : List ℕ → ℕ
malformed_piece_len [] = 0
malformed_piece_len (b ∷ text) = if b == byte "<" then hexadecimal_piece_len (1 + prefix_len is_hex_body text) (b ∷ text) else 1

-- a blank: a white byte that ends no line
abbrev pub is_line_blank : ℕ → Bool
is_line_blank b = list_any (λ c. b == c) (codes "\0\t\u{c} ")

-- whether only blanks stand after the last line end of a text, where blank states this for the bytes before the text
abbrev pub blank_after : Bool → List ℕ → Bool
blank_after blank [] = blank
blank_after blank (b ∷ text) = blank_after (if is_line_blank b then blank else ends_line b) text
