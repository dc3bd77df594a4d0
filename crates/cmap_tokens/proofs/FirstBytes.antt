-- What is read of a text, by its first byte.
use Rattle.std.proofs.Common.{◌≡◌, ℕ, ◌+◌, ◌-◌, ◌<◌, ◌≤◌, ◌==◌, Bool, true, false, List, [], ◌∷◌, length, get_or, take, drop, Option, None, Some, inl, inr, one-add, ap, refl, sym, ◌∙◌, arith, length-drop}
use Rattle.std.specs.Prelude.{◌⊎◌, IfSome, is_some, option_map}
use Rattle.std.specs.Char.{is_digit}
use Rattle.std.specs.List.{prefix_len}
use Rattle.std.proofs.lemmas.Bool.{and_left, cases_Bool, cond-true, ne_eqb, or_from}
use Rattle.std.proofs.lemmas.Bool.Decides.{nat_tests}
use Rattle.std.proofs.lemmas.List.{take_rest}
use Rattle.cmap_tokens.specs.Bytes.{is_white}
use Rattle.cmap_tokens.specs.Numbers.{are_digits, decimal_front, digits_value, integer_in_base, is_exponent, radix_integer, without_sign}
use Rattle.cmap_tokens.specs.Scanner.{spaced_decimal}
use Rattle.cmap_tokens.specs.Strings.{escape_value}
use Rattle.cmap_tokens.specs.Tokens.{is_hex_body}
use Rattle.cmap_tokens.specs.TokenReading.{one_more, hex_len, text_len, string_len, malformed_len, escape, first_part, octal, return_len, opened}

-- what holds anyway
pub if_any : {A : Type 0} (found : Option A) (P : Type 0) → P → IfSome found (λ _. P)
if_any None P holds = tt
if_any (Some x) P holds = holds

-- what is found within the rest after the first bytes is found within the text
pub rest_within : (found : Option ℕ) (text : List ℕ) (n : ℕ) → n ≤ length text → IfSome found (λ len. len ≤ n + length (take (length text - n) (drop n text))) → IfSome found (λ len. len ≤ length text)
rest_within None text n some within = tt
rest_within (Some len) text n some within = omega (arith, some, within, ap length (take_rest text n), length-drop n text)

-- ---- strings
pub hex_string_len : (text : List ℕ) → get_or text 0 0 ≡ 60 → string_len text ≡ one_more (hex_len (drop 1 text))
hex_string_len [] is = absurd (omega (arith, is))
hex_string_len (b ∷ text) is = rw is refl

pub text_string_len : (text : List ℕ) → get_or text 0 0 ≡ 40 → string_len text ≡ one_more (text_len opened (drop 1 text))
text_string_len [] is = absurd (omega (arith, is))
text_string_len (b ∷ text) is = rw is refl

pub no_string_len : (text : List ℕ) → (get_or text 0 0 ≡ 60 → ⊥) → (get_or text 0 0 ≡ 40 → ⊥) → string_len text ≡ None
no_string_len [] not_less not_open = refl
no_string_len (b ∷ text) not_less not_open = rw (ne_eqb b 60 not_less, ne_eqb b 40 not_open) refl

-- ---- what is no token
pub malformed_less : (text : List ℕ) → get_or text 0 0 ≡ 60 → malformed_len text ≡ 1 + prefix_len is_hex_body (drop 1 text)
malformed_less [] is = absurd (omega (arith, is))
malformed_less (b ∷ text) is = rw is refl

pub malformed_greater : (text : List ℕ) → get_or text 0 0 ≡ 62 → malformed_len text ≡ 1
malformed_greater [] is = absurd (omega (arith, is))
malformed_greater (b ∷ text) is = rw is refl

pub malformed_open : (text : List ℕ) → get_or text 0 0 ≡ 40 → malformed_len text ≡ length text
malformed_open [] is = absurd (omega (arith, is))
malformed_open (b ∷ text) is = rw is (one-add (length text))

pub malformed_none : (text : List ℕ) → (get_or text 0 0 ≡ 60 → ⊥) → (get_or text 0 0 ≡ 62 → ⊥) → (get_or text 0 0 ≡ 40 → ⊥) → malformed_len text ≡ 0
malformed_none [] not_less not_greater not_open = refl
malformed_none (b ∷ text) not_less not_greater not_open = rw (ne_eqb b 60 not_less, ne_eqb b 62 not_greater, ne_eqb b 40 not_open) refl

-- ---- numbers
exponent_rest : (text : List ℕ) → (get_or text 0 0 ≡ 101) ⊎ (get_or text 0 0 ≡ 69) → are_digits 10 (without_sign (drop 1 text)) ≡ is_exponent text
exponent_rest [] (inl is) = absurd (omega (arith, is))
exponent_rest [] (inr is) = absurd (omega (arith, is))
exponent_rest (b ∷ text) (inl is) = rw is refl
exponent_rest (b ∷ text) (inr is) = rw is refl

are_some : (f : ℕ → ℕ) (digits : List ℕ) → is_some (option_map f (digits_value 10 digits)) ≡ are_digits 10 digits
are_some f digits = elim (cases_Bool (are_digits 10 digits)) [ inl are ↦ rw are refl | inr fails ↦ rw fails refl ]

pub exponent_is : (f : ℕ → ℕ) (text rest : List ℕ) (digits : Option ℕ) (is : Bool) → (get_or text 0 0 ≡ 101) ⊎ (get_or text 0 0 ≡ 69) → rest ≡ without_sign (take (length text - 1) (drop 1 text)) → digits ≡ option_map f (digits_value 10 rest) → is ≡ is_some digits
    → is ≡ is_exponent text
exponent_is f text rest digits is begins rest_is digits_are same = same ∙ ap is_some digits_are ∙ are_some f rest ∙ ap (are_digits 10) (rest_is ∙ ap without_sign (take_rest text 1)) ∙ exponent_rest text begins

pub no_exponent : (text : List ℕ) → (get_or text 0 0 ≡ 101 → ⊥) → (get_or text 0 0 ≡ 69 → ⊥) → false ≡ is_exponent text
no_exponent [] small large = refl
no_exponent (b ∷ text) small large = sym (and_left _ _ (or_from _ _ (ne_eqb b 101 small) (ne_eqb b 69 large)))

pub radix_two : (run : List ℕ) → (get_or run 1 0 ≡ 35 → ⊥) → get_or run 2 0 ≡ 35 → integer_in_base (take 2 run) (drop 3 run) ≡ radix_integer run
unfolding radix_integer
radix_two [] first is = absurd (omega (arith, is))
radix_two (a ∷ []) first is = absurd (omega (arith, is))
radix_two (a ∷ b ∷ []) first is = absurd (omega (arith, is))
radix_two (a ∷ b ∷ c ∷ digits) first is = let other : (b == 35) ≡ false = ne_eqb b 35 first in rw (other, is) refl

pub radix_one : (run : List ℕ) → get_or run 1 0 ≡ 35 → integer_in_base (take 1 run) (drop 2 run) ≡ radix_integer run
unfolding radix_integer
radix_one [] is = absurd (omega (arith, is))
radix_one (a ∷ []) is = absurd (omega (arith, is))
radix_one (a ∷ b ∷ []) is = rw is refl
radix_one (a ∷ b ∷ c ∷ digits) is = rw is refl

pub no_radix : (run : List ℕ) → (get_or run 1 0 ≡ 35 → ⊥) → (get_or run 2 0 ≡ 35 → ⊥) → None ≡ radix_integer run
unfolding radix_integer
no_radix [] first second = refl
no_radix (a ∷ []) first second = refl
no_radix (a ∷ b ∷ []) first second = let other : (b == 35) ≡ false = ne_eqb b 35 first in rw other refl
no_radix (a ∷ b ∷ c ∷ digits) first second = let other : (b == 35) ≡ false = ne_eqb b 35 first in let nor : (c == 35) ≡ false = ne_eqb c 35 second in rw (other, nor) refl

pub decimal_after : (text : List ℕ) → is_white (get_or text 0 0) ≡ true → decimal_front (drop 1 text) ≡ spaced_decimal text
decimal_after text white = sym (cond-true _ _ _ white)

-- ---- parts of strings
pub part_escape : (body : List ℕ) → get_or body 0 0 ≡ 92 → ((escape (drop 1 body)).0, 1 + (escape (drop 1 body)).1) ≡ first_part body
unfolding first_part
part_escape [] is = absurd (omega (arith, is))
part_escape (b ∷ body) is = rw is refl

pub part_return : (body : List ℕ) → get_or body 0 0 ≡ 13 → (Some 10, return_len (drop 1 body)) ≡ first_part body
unfolding first_part
part_return [] is = absurd (omega (arith, is))
part_return (b ∷ body) is = rw is refl

pub part_plain : (body : List ℕ) → 0 < length body → (get_or body 0 0 ≡ 92 → ⊥) → (get_or body 0 0 ≡ 13 → ⊥) → (Some (get_or body 0 0), 1) ≡ first_part body
unfolding first_part
part_plain [] some not_escape not_return = absurd (omega (arith, some))
part_plain (b ∷ body) some not_escape not_return = rw (ne_eqb b 92 not_escape, ne_eqb b 13 not_return) refl

pub escape_nothing : (text : List ℕ) → length text < 1 → (None, 0) ≡ escape text
unfolding escape
escape_nothing [] none = refl
escape_nothing (b ∷ text) none = absurd (omega (arith, none))

pub escape_return : (text : List ℕ) → get_or text 0 0 ≡ 13 → (None, return_len (drop 1 text)) ≡ escape text
unfolding escape
escape_return [] is = absurd (omega (arith, is))
escape_return (b ∷ text) is = rw is refl

pub escape_line : (text : List ℕ) → get_or text 0 0 ≡ 10 → (None, 1) ≡ escape text
unfolding escape
escape_line [] is = absurd (omega (arith, is))
escape_line (b ∷ text) is = rw is refl

pub escape_octal : (text : List ℕ) → 48 ≤ get_or text 0 0 → get_or text 0 0 ≤ 55 → (Some (octal text).0, (octal text).1) ≡ escape text
unfolding escape
escape_octal [] low high = absurd (omega (arith, low))
escape_octal (b ∷ text) low high =
    let digit : is_digit b 8 ≡ true = grind (arith, nat_tests, low, high) in
    rw (ne_eqb b 13 (λ same. omega (arith, same, low)), ne_eqb b 10 (λ same. omega (arith, same, low)), digit) refl

pub escape_other : (text : List ℕ) → 0 < length text → (get_or text 0 0 ≡ 13 → ⊥) → (get_or text 0 0 ≡ 10 → ⊥) → (get_or text 0 0 < 48) ⊎ (56 ≤ get_or text 0 0) → (Some (escape_value (get_or text 0 0)), 1) ≡ escape text
unfolding escape
escape_other [] some not_return not_line outside = absurd (omega (arith, some))
escape_other (b ∷ text) some not_return not_line outside =
    let digit : is_digit b 8 ≡ false = grind (arith, nat_tests, outside) in
    rw (ne_eqb b 13 not_return, ne_eqb b 10 not_line, digit) refl
