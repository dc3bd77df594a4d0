-- Private aid: the reading that the code does, as functions on lists. TokensLeft and the contracts on the tokens that are left use these functions.
use Rattle.std.specs.Prelude.{zero, suc, ◌^◌, nat_lt, ◌%◌, ◌++◌, length, min, get_or, drop, ℕ, ◌+◌, ◌==◌, ◌||◌, Bool, true, false, not, List, [], ◌∷◌, take, map, option_map, filter, Option, Some, None, codes, if◌then◌else◌}
use Rattle.std.specs.List.{prefix_len}
use Rattle.std.specs.Option.{option_map_or, option_to_list}
use Rattle.std.specs.Char.{digit_value, is_digit}
use Rattle.cmap_tokens.specs.Ascii.{byte}
use Rattle.cmap_tokens.specs.Bytes.{begins, is_white, is_regular}
use Rattle.cmap_tokens.specs.Gaps.{ends_comment}
use Rattle.cmap_tokens.specs.Tokens.{Token, Name, String, Inside, after_byte, is_bracket, is_hex_body, name_or_number}
use Rattle.cmap_tokens.specs.Numbers.{digits_len, digits_number}
use Rattle.cmap_tokens.specs.Strings.{digit_pairs, escape_value, hex_value, inside}

-- the count and one more, if there is a count
abbrev pub one_more : Option ℕ → Option ℕ
one_more count = option_map (λ n. 1 + n) count

-- the text begins with this byte
abbrev pub begins_with : ℕ → List ℕ → Bool
begins_with c text = begins (λ b. b == c) text

-- how many bytes of white space and comments a text begins with, where in_comment states whether a comment is open before the text
abbrev pub gap_len : Bool → List ℕ → ℕ
gap_len in_comment [] = 0
gap_len true (b ∷ text) = 1 + gap_len (not (ends_comment b)) text
gap_len false (b ∷ text) = if b == byte "%" then 1 + gap_len true text else if is_white b then 1 + gap_len false text else 0

-- a byte above all bytes that end a comment
abbrev pub is_plain : ℕ → Bool
is_plain b = nat_lt (byte "\r") b

-- how many bytes a text has up to and including >, if only digits and white bytes stand before the >
abbrev pub hex_len : List ℕ → Option ℕ
hex_len text = if get_or text (prefix_len is_hex_body text) 0 == byte ">" then Some (1 + prefix_len is_hex_body text) else None

-- the state after the (
abbrev pub opened : Option Inside
opened = Some (record { escaped = false; depth = 1 })

-- how many bytes a text has up to and including the ) that closes the first parenthesis
abbrev pub text_len : Option Inside → List ℕ → Option ℕ
text_len None text = Some 0
text_len (Some state) [] = None
text_len (Some state) (b ∷ text) = one_more (text_len (after_byte state b) text)

-- the length of the string that begins a text, in bytes
abbrev pub string_len : List ℕ → Option ℕ
string_len [] = None
string_len (b ∷ text) =
    if b == byte "<" then one_more (hex_len text)
    else if b == byte "(" then one_more (text_len opened text)
    else None

-- the string of the first len bytes of a text, and its length, if a len is given
abbrev pub string_of : List ℕ → Option ℕ → Option (Token × ℕ)
string_of text len = option_map (λ n. (String (take n text), n)) len

-- the token that a text begins with, and how many bytes it takes
unfoldable pub first_piece : List ℕ → Option (Token × ℕ)
first_piece [] = None
first_piece (b ∷ text) =
    if is_regular b then Some (name_or_number (take (prefix_len is_regular (b ∷ text)) (b ∷ text)), prefix_len is_regular (b ∷ text))
    else if is_bracket b then Some (Name false (b ∷ []), 1)
    else if b == byte "/" then Some (Name true (take (prefix_len is_regular text) text), 1 + prefix_len is_regular text)
    else if b == byte "<" then (if begins_with (byte "<") text then Some (Name false (codes "<<"), 2) else string_of (b ∷ text) (string_len (b ∷ text)))
    else if b == byte ">" then (if begins_with (byte ">") text then Some (Name false (codes ">>"), 2) else None)
    else if b == byte "(" then string_of (b ∷ text) (string_len (b ∷ text))
    else None

-- how many bytes stand before the first byte that rules out a token, for a text that begins with no token: all bytes, if no byte rules it out. Stops defines that byte
abbrev pub malformed_len : List ℕ → ℕ
malformed_len [] = 0
malformed_len (b ∷ text) =
    if b == byte "<" then 1 + prefix_len is_hex_body text
    else if b == byte ">" then 1
    else if b == byte "(" then 1 + length text
    else 0

-- the digits of a hexadecimal string; and the bytes of digits, after a first digit that still lacks its second
abbrev pub hex_digits : List ℕ → List ℕ
hex_digits body = map digit_value (filter (λ b. is_digit b 16) body)

abbrev pub pairs_after : Option ℕ → List ℕ → List ℕ
pairs_after None digits = digit_pairs digits
pairs_after (Some high) digits = digit_pairs (high ∷ digits)

-- how many digits an octal escape has: at most three
abbrev pub octal_len : List ℕ → ℕ
octal_len text = min 3 (digits_len 8 text)

-- the value of an octal escape modulo 256, and the number of its digits
abbrev pub octal : List ℕ → ℕ × ℕ
octal text = (digits_number 8 (take (octal_len text) text) % 256, octal_len text)

-- the length of a line end that begins with a carriage return, CR LF or CR alone, where the text is the part after the CR
abbrev pub return_len : List ℕ → ℕ
return_len text = if begins_with (byte "\n") text then 2 else 1

-- an escape, from the bytes after its backslash: the byte that it means, if any, and the number of bytes that it takes. An escaped line end means no byte
unfoldable pub escape : List ℕ → Option ℕ × ℕ
escape [] = (None, 0)
escape (c ∷ text) =
    if c == byte "\r" then (None, return_len text)
    else if c == byte "\n" then (None, 1)
    else if is_digit c 8 then (Some (octal (c ∷ text)).0, (octal (c ∷ text)).1)
    else (Some (escape_value c), 1)

-- the first part of the body of ( .. ): the byte that the part stands for, if any, and its length. A line end that isn't escaped stands for LF
unfoldable pub first_part : List ℕ → Option ℕ × ℕ
first_part [] = (None, 0)
first_part (b ∷ text) =
    if b == byte "\\" then ((escape text).0, 1 + (escape text).1)
    else if b == byte "\r" then (Some (byte "\n"), return_len text)
    else (Some b, 1)

-- the bytes of the first n parts
abbrev pub parts_value : ℕ → List ℕ → List ℕ
parts_value zero body = []
parts_value (suc n) body = option_to_list (first_part body).0 ++ parts_value n (drop (first_part body).1 body)

-- the bytes of ( body ), which has no more parts than bytes
abbrev pub text_value : List ℕ → List ℕ
text_value body = parts_value (length body) body

-- each escaping backslash has a byte after it, where escaped states whether a backslash escapes the first byte of the text
abbrev pub is_paired : Bool → List ℕ → Bool
is_paired escaped [] = not escaped
is_paired true (b ∷ text) = is_paired false text
is_paired false (b ∷ text) = is_paired (b == byte "\\") text

-- the text is a string and nothing more
unfoldable pub is_string : List ℕ → Bool
is_string text = option_map_or (λ n. n == length text) (string_len text) false

-- the bytes that a string stands for; its first bracket shows its kind
abbrev pub value_by_bracket : List ℕ → List ℕ
value_by_bracket piece = if get_or piece 0 0 == byte "<" then hex_value (inside piece) else text_value (inside piece)

-- the value of a piece, where it is a string
unfoldable pub string_value : List ℕ → Option (List ℕ)
string_value piece = if is_string piece then Some (value_by_bracket piece) else None

-- ---- digits that are tested at the end
-- a byte that a number may begin with
abbrev pub begins_number : ℕ → Bool
begins_number b = is_digit b 10 || b == byte "+" || b == byte "-" || b == byte "."

-- the value of a digit of a base; for any other byte 2^32, more than any number of eight digits
abbrev pub weight : ℕ → ℕ → ℕ
weight base b = if is_digit b base then digit_value b else 2 ^ 32

-- the decimal digits at the start of a text, if a byte follows them: the number that the digits write, and the number of the digits
abbrev pub leading_digits : List ℕ → Option (ℕ × ℕ)
leading_digits text = if nat_lt (digits_len 10 text) (length text) then Some (digits_number 10 (take (digits_len 10 text) text), digits_len 10 text) else None
