-- What contracts see of a scanner.
use Rattle.std.specs.Prelude.{◌≡◌, ℕ, ◌+◌, ◌*◌, option_and_then, option_map, ◌&&◌, ◌==◌, List, length, get_or, take, drop, Option, None, if◌then◌else◌}
use Rattle.std.specs.Option.{option_or}
use Rattle.cmap_tokens.specs.Ascii.{byte}
use Rattle.cmap_tokens.specs.Bytes.{is_white}
use Rattle.cmap_tokens.specs.Numbers.{digits_value, decimal_front}
use Rattle.cmap_tokens.specs.Tokens.{Token, Front}

-- the source, and how far the scanner has come in it
pub record Cursor : Type 0 where
  pub source : List ℕ
  pub passed : ℕ

-- what is left of the source
abbrev pub rest_of : Cursor → List ℕ
rest_of cursor = drop cursor.passed cursor.source

-- the text begins with this gap and this token, whose bytes are the piece, and can't be divided in another way
pub record OnlyFront (text gap piece : List ℕ) (token : Token) (rest : List ℕ) : Type 0 where
  pub front : Front text gap piece token rest
  pub only : (other_gap other_piece other_rest : List ℕ) (other : Token) → Front text other_gap other_piece other other_rest → (other_gap ≡ gap) × (other_piece ≡ piece) × (other ≡ token) × (other_rest ≡ rest)

-- the text has only this first token; the token and the gap before it take len bytes
abbrev pub FirstToken : List ℕ → Token → ℕ → Type 0
FirstToken text token len = (gap piece : List ℕ) × OnlyFront text gap piece token (drop len text) × (len ≡ length gap + length piece)

-- the rest of the source has only this first token, and the new cursor stands after the token
abbrev pub ReadsToken : Cursor → Token → Cursor → Type 0
ReadsToken old token new =
    (gap piece : List ℕ) × OnlyFront (rest_of old) gap piece token (rest_of new) × (new ≡ record { source = old.source; passed = old.passed + (length gap + length piece) })

-- the cursor after len further bytes
abbrev pub past : ℕ → Cursor → Cursor
past len cursor = record { source = cursor.source; passed = cursor.passed + len }

-- a text that begins with one white byte, < four hexadecimal digits >: the number that the digits write
abbrev pub spaced_two_bytes : List ℕ → Option ℕ
spaced_two_bytes text = if get_or text 6 0 == byte ">" && get_or text 1 0 == byte "<" && is_white (get_or text 0 0) then digits_value 16 (take 4 (drop 2 text)) else None

-- the number that the first len bytes of a text write, if they are hexadecimal digits and > follows them
abbrev pub closed_number : ℕ → List ℕ → Option ℕ
closed_number len text = if get_or text len 0 == byte ">" then digits_value 16 (take len text) else None

-- the first count pairs of hexadecimal digits, if > follows them: how many pairs, and the number that they write
abbrev pub closed_pairs : ℕ → List ℕ → Option (ℕ × ℕ)
closed_pairs count text = option_map (λ number. (count, number)) (closed_number (2 * count) text)

-- one to four pairs of hexadecimal digits, if > follows them: how many pairs, and the number that they write
abbrev pub short_pairs : List ℕ → Option (ℕ × ℕ)
short_pairs text = option_or (closed_pairs 1 text) (option_or (closed_pairs 2 text) (option_or (closed_pairs 3 text) (closed_pairs 4 text)))

-- a text that begins with one white byte, < one to four pairs of hexadecimal digits >: how many pairs, and the number that they write
abbrev pub spaced_pairs : List ℕ → Option (ℕ × ℕ)
spaced_pairs text = if get_or text 1 0 == byte "<" && is_white (get_or text 0 0) then short_pairs (drop 2 text) else None

-- four pairs of hexadecimal digits and count more, if > follows them: how many pairs, the number of the first four, and the number of the others
abbrev pub closed_parts : ℕ → List ℕ → Option (ℕ × ℕ × ℕ)
closed_parts count text = option_and_then (λ high. option_map (λ low. (4 + count, high, low)) (closed_number (2 * count) (drop 8 text))) (digits_value 16 (take 8 text))

-- a text that begins with one white byte, < six or eight pairs of hexadecimal digits >: how many pairs, the number of the first four, and the number of the others
abbrev pub spaced_parts : List ℕ → Option (ℕ × ℕ × ℕ)
spaced_parts text = if get_or text 1 0 == byte "<" && is_white (get_or text 0 0) then option_or (closed_parts 2 (drop 2 text)) (closed_parts 4 (drop 2 text)) else None

-- a text that begins with one white byte, one to 18 decimal digits, and a byte that is not regular: the number that the digits write, and how many they are
abbrev pub spaced_decimal : List ℕ → Option (ℕ × ℕ)
spaced_decimal text = if is_white (get_or text 0 0) then decimal_front (drop 1 text) else None
