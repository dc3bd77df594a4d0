-- The spelling of numbers, for whole runs of regular bytes. PostScript Language Reference, third edition, 3.2.2.
use Rattle.std.specs.Prelude.{ℕ, ℤ, pos, neg_ℤ, ◌+◌, ◌-◌, ◌^◌, get_or, ◌||◌, ◌&&◌, ◌==◌, nat_lt, nat_le, Bool, false, List, [], ◌∷◌, length, take, drop, map, not, Option, Some, None, option_map, option_and_then, int_le, if◌then◌else◌}
use Rattle.std.specs.List.{list_all, prefix_len}
use Rattle.std.specs.Option.{option_or}
use Rattle.std.specs.Char.{digit_value, is_digit}
use Rattle.std.specs.Int.Digits.{number_from_digits}
use Rattle.cmap_tokens.specs.Bytes.{is_regular}
use Rattle.cmap_tokens.specs.Ascii.{byte}

-- the value of a number token
pub data Number : Type 0 where
  Integer : ℤ → Number
  Real : Number

-- an integer outside of the signed 64-bit range is a real
abbrev pub number_of : ℤ → Number
number_of n = if int_le (neg_ℤ (pos (2 ^ 63))) n && int_le n (pos (2 ^ 63 - 1)) then Integer n else Real

-- one or more digits of a base
abbrev pub are_digits : ℕ → List ℕ → Bool
are_digits base text = nat_lt 0 (length text) && list_all (λ c. is_digit c base) text

-- the number that digits of a base write
abbrev pub digits_number : ℕ → List ℕ → ℕ
digits_number base digits = number_from_digits base (map digit_value digits)

-- the number that a text writes, if the text is one or more digits of a base
abbrev pub digits_value : ℕ → List ℕ → Option ℕ
digits_value base text = if are_digits base text then Some (digits_number base text) else None

-- -17, +4, 08
unfoldable pub integer : List ℕ → Option Number
integer [] = None
integer (b ∷ text) =
    if b == byte "-" then option_map (λ n. number_of (neg_ℤ (pos n))) (digits_value 10 text)
    else if b == byte "+" then option_map (λ n. number_of (pos n)) (digits_value 10 text)
    else option_map (λ n. number_of (pos n)) (digits_value 10 (b ∷ text))

-- digits in a base from 2 to 36; decimal digits spell the base
unfoldable pub integer_in_base : List ℕ → List ℕ → Option Number
integer_in_base base digits =
    option_and_then (λ b. if nat_le 2 b && nat_le b 36 then option_map (λ n. number_of (pos n)) (digits_value b digits) else None) (digits_value 10 base)

-- 16#1F: a base of one or two digits, and digits of that base
unfoldable pub radix_integer : List ℕ → Option Number
radix_integer text =
    if get_or text 1 0 == byte "#" then integer_in_base (take 1 text) (drop 2 text)
    else if get_or text 2 0 == byte "#" then integer_in_base (take 2 text) (drop 3 text)
    else None

-- the text after its sign, if it has one
abbrev pub without_sign : List ℕ → List ℕ
without_sign [] = []
without_sign (b ∷ text) = if b == byte "+" || b == byte "-" then text else b ∷ text

-- how many digits of a base a text begins with
abbrev pub digits_len : ℕ → List ℕ → ℕ
digits_len base text = prefix_len (λ c. is_digit c base) text

-- e or E, perhaps a sign, and digits
abbrev pub is_exponent : List ℕ → Bool
is_exponent [] = false
is_exponent (b ∷ text) = (b == byte "e" || b == byte "E") && are_digits 10 (without_sign text)

-- the rest of a real after its first len digits: a dot, digits and perhaps an exponent, with a digit before or after the dot; or an exponent after one or more digits
abbrev pub ends_real : ℕ → List ℕ → Bool
ends_real len text =
    if get_or text 0 0 == byte "." then nat_lt 0 (len + digits_len 10 (drop 1 text)) && (length (drop (digits_len 10 (drop 1 text)) (drop 1 text)) == 0 || is_exponent (drop (digits_len 10 (drop 1 text)) (drop 1 text)))
    else nat_lt 0 len && is_exponent text

-- 4.5, -.5e3, 1E9
unfoldable pub is_real : List ℕ → Bool
is_real text = ends_real (digits_len 10 (without_sign text)) (drop (digits_len 10 (without_sign text)) (without_sign text))

-- the number that a text spells: an integer, else an integer with its base, else a real
unfoldable pub numeral : List ℕ → Option Number
numeral text = option_or (integer text) (option_or (radix_integer text) (if is_real text then Some Real else None))

-- at most 18 decimal digits at the start of a text, with a byte after them: the number that the digits write, and the number of the digits
abbrev pub leading_decimal : List ℕ → Option (ℕ × ℕ)
leading_decimal text =
    if nat_le (digits_len 10 text) 18 && nat_lt (digits_len 10 text) (length text)
    then Some (digits_number 10 (take (digits_len 10 text) text), digits_len 10 text)
    else None

-- one to 18 decimal digits at the start of a text, with a byte after them that is not regular: the number that the digits write, and the number of the digits
abbrev pub decimal_front : List ℕ → Option (ℕ × ℕ)
decimal_front text =
    if nat_le 1 (digits_len 10 text) && nat_le (digits_len 10 text) 18 && nat_lt (digits_len 10 text) (length text) && not (is_regular (get_or text (digits_len 10 text) 0))
    then Some (digits_number 10 (take (digits_len 10 text) text), digits_len 10 text)
    else None
