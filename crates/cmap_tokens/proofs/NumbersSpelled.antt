-- How numbers are spelled: what the definitions give where the parts of a text are known.
use Rattle.std.proofs.Common.{◌≡◌, ℕ, ◌+◌, ◌-◌, ◌<◌, ◌≤◌, ◌^◌, ◌==◌, ◌||◌, ◌&&◌, Bool, true, false, List, [], ◌∷◌, length, get_or, take, drop, Option, Some, None, option_map, refl, sym, ap, ◌∙◌, inl, inr, ◌⊎◌, arith}
use Rattle.std.specs.Prelude.{min, nat_le, nat_lt, neg_ℤ, option_and_then, pos, if◌then◌else◌}
use Rattle.std.specs.Char.{is_digit}
use Rattle.std.specs.List.{list_all}
use Rattle.std.proofs.lemmas.Bool.{and_right, eq-eqb, false≢true, le-leb, lt-leb, ne_eqb}
use Rattle.std.proofs.lemmas.List.{take_rest}
use Rattle.std.proofs.lemmas.Option.{none-some, same_Some}
use Rattle.cmap_tokens.specs.Numbers.{are_digits, digits_len, digits_value, ends_real, integer, integer_in_base, is_exponent, is_real, number_of, numeral, radix_integer, without_sign, Number}
use Rattle.cmap_tokens.specs.TokenReading.{begins_number}

abbrev pub positive : Option ℕ → Option Number
positive magnitude = option_map (λ n. number_of (pos n)) magnitude

abbrev pub negative : Option ℕ → Option Number
negative magnitude = option_map (λ n. number_of (neg_ℤ (pos n))) magnitude

pub minus_integer : (text : List ℕ) → get_or text 0 0 ≡ 45 → negative (digits_value 10 (take (length text - 1) (drop 1 text))) ≡ integer text
unfolding integer
minus_integer [] minus = absurd (omega (arith, minus))
minus_integer (b ∷ text) minus = ap (λ t. negative (digits_value 10 t)) (take_rest (b ∷ text) 1) ∙ rw minus refl

pub plus_integer : (text : List ℕ) → get_or text 0 0 ≡ 43 → positive (digits_value 10 (take (length text - 1) (drop 1 text))) ≡ integer text
unfolding integer
plus_integer [] plus = absurd (omega (arith, plus))
plus_integer (b ∷ text) plus = ap (λ t. positive (digits_value 10 t)) (take_rest (b ∷ text) 1) ∙ rw plus refl

pub plain_integer : (text : List ℕ) → (get_or text 0 0 ≡ 45 → ⊥) → (get_or text 0 0 ≡ 43 → ⊥) → positive (digits_value 10 text) ≡ integer text
unfolding integer
plain_integer [] minus plus = refl
plain_integer (b ∷ text) minus plus = rw (ne_eqb b 45 minus, ne_eqb b 43 plus) refl

-- ---- digits in a base, by the number that is read of the base
abbrev read_as : Option ℕ → Option ℕ
read_as base = option_map (λ n. min n (2 ^ 64 - 1)) base

abbrev of_base : List ℕ → ℕ → Option Number
of_base digits b = if nat_le 2 b && nat_le b 36 then positive (digits_value b digits) else None

none_of_base : (digits : List ℕ) (base : Option ℕ) → None ≡ read_as base → None ≡ option_and_then (of_base digits) base
none_of_base digits None none = refl
none_of_base digits (Some n) none = absurd (none-some (min n (2 ^ 64 - 1)) none)

wrong_of_base : (digits : List ℕ) (b : ℕ) (base : Option ℕ) → Some b ≡ read_as base → (b < 2) ⊎ ((2 ≤ b) × (36 < b)) → None ≡ option_and_then (of_base digits) base
wrong_of_base digits b None is wrong = absurd (none-some b (sym is))
wrong_of_base digits b (Some n) is (inl low) = let same = same_Some b (min n (2 ^ 64 - 1)) is in rw (lt-leb 2 n (omega (arith, same, low))) refl
wrong_of_base digits b (Some n) is (inr (least, high)) =
    let same = same_Some b (min n (2 ^ 64 - 1)) is in
    rw (le-leb 2 n (omega (arith, same, least)), lt-leb n 36 (omega (arith, same, high))) refl

good_of_base : (digits : List ℕ) (b : ℕ) (base : Option ℕ) → Some b ≡ read_as base → 2 ≤ b → b ≤ 36 → positive (digits_value b digits) ≡ option_and_then (of_base digits) base
good_of_base digits b None is least most = absurd (none-some b (sym is))
good_of_base digits b (Some n) is least most =
    let same : b ≡ n = omega (arith, same_Some b (min n (2 ^ 64 - 1)) is, most) in
    rw (← same, le-leb 2 b least, le-leb b 36 most) refl

pub none_in_base : (base digits : List ℕ) → None ≡ read_as (digits_value 10 base) → None ≡ integer_in_base base digits
unfolding integer_in_base
none_in_base base digits none = none_of_base digits (digits_value 10 base) none

pub wrong_base : (base digits : List ℕ) (b : ℕ) → Some b ≡ read_as (digits_value 10 base) → (b < 2) ⊎ ((2 ≤ b) × (36 < b)) → None ≡ integer_in_base base digits
unfolding integer_in_base
wrong_base base digits b is wrong = wrong_of_base digits b (digits_value 10 base) is wrong

pub good_base : (base digits : List ℕ) (b : ℕ) → Some b ≡ read_as (digits_value 10 base) → 2 ≤ b → b ≤ 36 → positive (digits_value b digits) ≡ integer_in_base base digits
unfolding integer_in_base
good_base base digits b is least most = good_of_base digits b (digits_value 10 base) is least most

-- a real whose dot comes next, by what stands after the dot
pub dot_real : (len n : ℕ) (text fraction exponent : List ℕ) (some none ends : Bool) → get_or text 0 0 ≡ 46 → fraction ≡ drop 1 text → n ≡ digits_len 10 fraction → exponent ≡ drop n fraction → nat_lt 0 (len + n) ≡ some → (length exponent == 0) ≡ none → is_exponent exponent ≡ ends → (some && (none || ends)) ≡ ends_real len text
dot_real len n text fraction exponent some none ends dot fraction_is n_is exponent_is some_is none_is ends_is =
    let dotted : (get_or text 0 0 == 46) ≡ true = eq-eqb _ 46 dot in
    rw (dotted, ← fraction_is, ← n_is, ← exponent_is, some_is, none_is, ends_is) refl

pub real_is : (run unsigned : List ℕ) (n : ℕ) → unsigned ≡ without_sign run → n ≡ digits_len 10 unsigned → ends_real n (take (length unsigned - n) (drop n unsigned)) ≡ is_real run
unfolding is_real
real_is run unsigned n unsigned_is n_is = ap (ends_real n) (take_rest unsigned n) ∙ ap (λ k. ends_real k (drop k unsigned)) n_is ∙ ap (λ t. ends_real (digits_len 10 t) (drop (digits_len 10 t) t)) unsigned_is

-- no number begins with another byte
none_of_four : (a b c d : Bool) → (a || b || c || d) ≡ false → (a ≡ false) × (b ≡ false) × (c ≡ false) × (d ≡ false)
none_of_four true b c d e = absurd (false≢true (sym e))
none_of_four false true c d e = absurd (false≢true (sym e))
none_of_four false false true d e = absurd (false≢true (sym e))
none_of_four false false false true e = absurd (false≢true (sym e))
none_of_four false false false false e = (refl, refl, refl, refl)

either_way : {A : Type 0} (test : Bool) (x : A) → (if test then x else x) ≡ x
either_way true x = refl
either_way false x = refl

no_digits : (b : ℕ) (text : List ℕ) → is_digit b 10 ≡ false → digits_value 10 (b ∷ text) ≡ None
no_digits b text other = let none : list_all (λ c. is_digit c 10) (b ∷ text) ≡ false = rw other refl in
    let are : are_digits 10 (b ∷ text) ≡ false = and_right _ _ none in
    rw are refl

no_base : (b : ℕ) (text digits : List ℕ) → is_digit b 10 ≡ false → integer_in_base (b ∷ text) digits ≡ None
unfolding integer_in_base
no_base b text digits other = rw (no_digits b text other) refl

no_radix_after : (b : ℕ) (text : List ℕ) → is_digit b 10 ≡ false → radix_integer (b ∷ text) ≡ None
unfolding radix_integer
no_radix_after b [] other = refl
no_radix_after b (c ∷ []) other = rw (no_base b [] [] other) (either_way (c == 35) None)
no_radix_after b (c ∷ d ∷ text) other = rw (no_base b [] (d ∷ text) other, no_base b (c ∷ []) text other, either_way {A = Option Number} (d == 35) None) (either_way (c == 35) None)

begun_by : (b : ℕ) (text : List ℕ) → begins_number b ≡ false → None ≡ numeral (b ∷ text)
unfolding numeral integer is_real
begun_by b text other =
    let (digit, plus, minus, dot) = none_of_four (is_digit b 10) (b == 43) (b == 45) (b == 46) other in
    rw (minus, plus, no_digits b text digit, no_radix_after b text digit, digit, dot) refl

pub not_begun : (run : List ℕ) → (length run ≡ 0) ⊎ (begins_number (get_or run 0 0) ≡ false) → None ≡ numeral run
unfolding numeral integer radix_integer is_real
not_begun [] fails = refl
not_begun (b ∷ text) (inl none) = absurd (omega (arith, none))
not_begun (b ∷ text) (inr other) = begun_by b text other
