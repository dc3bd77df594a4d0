-- The numbers that digits write.
use Rattle.std.proofs.Common.{◌++◌, suc, zero, Bool, None, inl, inr, length-drop, length-take-le, ◌≡◌, ℕ, ◌+◌, ◌*◌, ◌-◌, ◌^◌, ◌<◌, ◌≤◌, min, List, length, get_or, take, drop, true, ap, sym, ◌∙◌, ⊎_elim, arith, [], ◌∷◌, map, refl, ◌%◌, ◌/◌, pos, false, ◌==◌, Some}
use Rattle.std.specs.Char.{digit_value, is_digit}
use Rattle.std.specs.List.{list_all, prefix_len}
use Rattle.std.proofs.lemmas.Bool.{and_cases, and_from, and_left, and_right, cond-false, lt-leb, not_from_true, leb-true, lt-ltb, ltb-false, cases_Bool, false≢true, cases_lt, and_parts, ltb-true, le-leb, not_from_false}
use Rattle.std.proofs.lemmas.Int.Digits.{number_after_ge, number_push, digits_value_is, digits_value_more, number_lt}
use Rattle.std.proofs.Math.Nat.{mul-le-mul_left, mul-le-mul_right, pow-le-pow_right, pow-suc}
use Rattle.cmap_tokens.specs.Numbers.{decimal_front, digits_len, leading_decimal, digits_number, are_digits, digits_value, Integer, integer, numeral}
use Rattle.std.specs.Prelude.{◌&&◌, ◌⊎◌, IfSome, MatchOption, Option, nat_lt, option_map, unwrap_or, nat_le, codes}
use Rattle.std.specs.Int.Digits.{AllBelowBase, number_from_digits_after}
use Rattle.std.proofs.lemmas.List.{drop_more, length-map, length-take, map-append, take-append-drop, take-take, take_more}
use Rattle.cmap_tokens.specs.TokenReading.{weight, leading_digits, octal_len}
use Rattle.std.proofs.lemmas.Option.{none-some, same_Some}
use Rattle.cmap_tokens.proofs.ByteTests.{all_front, chosen, none_of, one_of, other_byte, prefix_ends}
use Rattle.std.specs.Int.Digits.{number_from_digits}
use Rattle.std.specs.List.{AllByRecursion}
use Rattle.cmap_tokens.specs.Strings.{ArePairs, hex_value}
use Rattle.cmap_tokens.specs.Bytes.{begins, is_regular, is_white}
use Rattle.cmap_tokens.specs.Scanner.{spaced_decimal}

-- ---- a number kept within 64 bits
-- a number within the limit m goes on by a digit
pub min_step : (n base d m : ℕ) → 0 < base → min (min (min n m * base) m + d) m ≡ min (n * base + d) m
min_step n base d m h =
    let grows : (k : ℕ) → k ≤ k * base = λ k. omega (arith, mul-le-mul_left k h) in
    ⊎_elim
    (λ (over : m < n). let same : min n m ≡ m = omega arith in
    rw same (omega (arith, grows m, grows n)))
    (λ (within : n ≤ m). let same : min n m ≡ n = omega arith in
    rw same (omega arith))
    (cases_lt m n)

-- one more digit
pub digits_number_more : (base : ℕ) (text : List ℕ) (i : ℕ) → i < length text → digits_number base (take (i + 1) text) ≡ digits_number base (take i text) * base + digit_value (get_or text i 0)
digits_number_more base text i h =
    sym (digits_value_is base (take (i + 1) text)) ∙ digits_value_more base text i h ∙ ap (λ n. n * base + digit_value (get_or text i 0)) (digits_value_is base (take i text))

-- ---- up to three octal digits
pub below_base : (base : ℕ) (digits : List ℕ) → list_all (λ c. is_digit c base) digits ≡ true → AllBelowBase base (map digit_value digits)
below_base base [] all = tt
below_base base (c ∷ digits) all = let (first, others) = and_parts (is_digit c base) (list_all (λ k. is_digit k base) digits) all in (ltb-true (digit_value c) base first, below_base base digits others)

-- so many digits write a number below this one
pub digits_small : (base m : ℕ) (digits : List ℕ) → 0 < base → list_all (λ c. is_digit c base) digits ≡ true → length digits ≤ m → digits_number base digits < base ^ m
digits_small base m digits some all few =
    let size = length-map digits digit_value in
    omega (arith, pow-le-pow_right {n = base} some {i = length (map digit_value digits)} {j = m} (omega (arith, size, few)), number_lt base (map digit_value digits) (below_base base digits all))

-- what a text of digits writes, where no cap of 64 bits is met
abbrev pub capped : ℕ → List ℕ → Option ℕ
capped base digits = option_map (λ n. min n (2 ^ 64 - 1)) (digits_value base digits)

uncapped : (base m : ℕ) (digits : List ℕ) → 0 < base → length digits ≤ m → base ^ m ≤ 2 ^ 64 → capped base digits ≡ digits_value base digits
uncapped base m digits some few fits =
    elim (cases_Bool (are_digits base digits)) [
      | inl are ↦
          let small = digits_small base m digits some (and_parts (nat_lt 0 (length digits)) (list_all (λ c. is_digit c base) digits) are).1 few in
          let under : min (digits_number base digits) (2 ^ 64 - 1) ≡ digits_number base digits = omega (arith, small, fits) in
          rw are (ap Some under)
      | inr fails ↦ rw fails refl
    ]

-- at most m digits that write a number
pub record Written (base m : ℕ) (digits : List ℕ) (n : ℕ) : Type 0 where
  pub value : digits_value base digits ≡ Some n
  pub filled : 0 < length digits
  pub all : list_all (λ c. is_digit c base) digits ≡ true
  pub number : n ≡ digits_number base digits
  pub small : n < base ^ m

pub written : (base m : ℕ) (digits : List ℕ) (n : ℕ) → 0 < base → length digits ≤ m → digits_value base digits ≡ Some n → Written base m digits n
written base m digits n some few is =
    let (are, read) = chosen (are_digits base digits) (Some (digits_number base digits)) n is in
    let (filled, all) = and_parts (nat_lt 0 (length digits)) (list_all (λ c. is_digit c base) digits) are in
    let number : n ≡ digits_number base digits = sym (same_Some _ _ read) in
    record { value = is; filled = ltb-true 0 (length digits) filled; all = all; number = number; small = omega (arith, number, digits_small base m digits some all few) }

-- and no cap is met
pub written_uncapped : (base m : ℕ) (digits : List ℕ) (n : ℕ) → 0 < base → length digits ≤ m → base ^ m ≤ 2 ^ 64 → Some n ≡ capped base digits → Written base m digits n
written_uncapped base m digits n some few fits is = written base m digits n some few (sym (is ∙ uncapped base m digits some few fits))

unwrapped : (digits : List ℕ) → list_all (λ c. is_digit c 8) digits ≡ true → unwrap_or (digits_value 8 digits) 0 ≡ digits_number 8 digits
unwrapped [] all = refl
unwrapped (c ∷ digits) all = let are : are_digits 8 (c ∷ digits) ≡ true = and_from _ _ (lt-ltb 0 (length (c ∷ digits)) (omega arith)) all in rw are refl

pub octal_value : (text : List ℕ) → unwrap_or (capped 8 (take (octal_len text) text)) 0 ≡ digits_number 8 (take (octal_len text) text)
octal_value text =
    rw (uncapped 8 3 (take (octal_len text) text) (omega arith) (omega (arith, length-take (octal_len text) text)) (omega arith))
    (unwrapped (take (octal_len text) text) (all_front (λ c. is_digit c 8) (octal_len text) text (omega arith)))

-- ---- up to eight digits, which are tested at the end
are_weights : (base : ℕ) (digits : List ℕ) → list_all (λ c. is_digit c base) digits ≡ true → map (weight base) digits ≡ map digit_value digits
are_weights base [] all = refl
are_weights base (c ∷ digits) all =
    let (first, others) = and_parts (is_digit c base) (list_all (λ k. is_digit k base) digits) all in
    rw first (ap (λ more. digit_value c ∷ more) (are_weights base digits others))

-- a byte that is no digit makes the number too large
too_heavy : (base n : ℕ) (digits : List ℕ) → 0 < base → list_all (λ c. is_digit c base) digits ≡ false → 2 ^ 32 ≤ number_from_digits_after base n (map (weight base) digits)
too_heavy base n [] some fails = absurd (false≢true (sym fails))
too_heavy base n (c ∷ digits) some fails =
    elim (cases_Bool (is_digit c base)) [
      | inl digit ↦ too_heavy base (n * base + weight base c) digits some (rw digit at fails)
      | inr other ↦ rw other (omega (arith, number_after_ge base (n * base + 2 ^ 32) (map (weight base) digits) some))
    ]

pub light : (base : ℕ) (digits : List ℕ) (n : ℕ) → 0 < base → 0 < length digits → n ≡ number_from_digits base (map (weight base) digits) → n < 2 ^ 32 → digits_value base digits ≡ Some n
light base digits n some filled is small =
    elim (cases_Bool (list_all (λ c. is_digit c base) digits)) [
      | inl all ↦
          let are : are_digits base digits ≡ true = and_from _ _ (lt-ltb 0 (length digits) filled) all in
          rw are (ap Some (sym (is ∙ ap (number_from_digits base) (are_weights base digits all))))
      | inr other ↦ absurd (omega (arith, too_heavy base 0 digits some other, is, small))
    ]

pub heavy : (base : ℕ) (digits : List ℕ) (n : ℕ) → 0 < base → base ^ 8 ≤ 2 ^ 32 → length digits ≤ 8 → n ≡ number_from_digits base (map (weight base) digits) → 2 ^ 32 ≤ n → digits_value base digits ≡ None
heavy base digits n some fits few is large =
    elim (cases_Bool (list_all (λ c. is_digit c base) digits)) [
      | inl all ↦ absurd (omega (arith, digits_small base 8 digits some all few, is ∙ ap (number_from_digits base) (are_weights base digits all), fits, large))
      | inr other ↦ let are : are_digits base digits ≡ false = and_right _ _ other in rw are refl
    ]

pub weight_value : (base : ℕ) (digits : List ℕ) (i : ℕ) → i < length digits
    → number_from_digits base (map (weight base) (take (i + 1) digits)) ≡ number_from_digits base (map (weight base) (take i digits)) * base + weight base (get_or digits i 0)
weight_value base digits i within =
    ap (λ front. number_from_digits base (map (weight base) front)) (take_more digits i 0 within) ∙ ap (number_from_digits base) (map-append (weight base) (take i digits) (get_or digits i 0 ∷ [])) ∙ number_push base (map (weight base) (take i digits)) (weight base (get_or digits i 0))

pub most_weight : (base b : ℕ) → base ≤ 36 → weight base b ≤ 2 ^ 32
most_weight base b few = elim (cases_Bool (is_digit b base)) [ inl digit ↦ rw digit (omega (arith, ltb-true (digit_value b) base digit)) | inr other ↦ rw other (omega arith) ]

pub weight_more : (base n w i : ℕ) → 2 ≤ base → w ≤ 2 ^ 32 → n + 2 ^ 32 ≤ 2 ^ 32 * base ^ i → n * base + w + 2 ^ 32 ≤ 2 ^ 32 * base ^ (i + 1)
weight_more base n w i some light bound =
    let next : base ^ (i + 1) ≡ base ^ i * base = let s : i + 1 ≡ suc i = omega arith in ap (λ k. base ^ k) s ∙ pow-suc base i in
    let grown : (n + 2 ^ 32) * base ≤ 2 ^ 32 * base ^ i * base = mul-le-mul_right base bound in
    omega (arith, next, grown)

pub weight_fits : (base n i : ℕ) → 0 < base → base ^ 8 ≤ 2 ^ 32 → i ≤ 8 → n + 2 ^ 32 ≤ 2 ^ 32 * base ^ i → n + 2 ^ 32 ≤ 2 ^ 64
weight_fits base n i some fits few bound = omega (arith, fits, pow-le-pow_right {n = base} some {i = i} {j = 8} few)

-- two bytes more
pub pair_value : (digits : List ℕ) (i : ℕ) → 2 * i + 1 < length digits
    → number_from_digits 16 (map (weight 16) (take (2 * (i + 1)) digits)) ≡ number_from_digits 16 (map (weight 16) (take (2 * i) digits)) * 256 + (16 * weight 16 (get_or digits (2 * i) 0) + weight 16 (get_or digits (2 * i + 1) 0))
pair_value digits i within =
    let place : 2 * (i + 1) ≡ 2 * i + 1 + 1 = omega arith in
    omega (arith, ap (λ n. number_from_digits 16 (map (weight 16) (take n digits))) place, weight_value 16 digits (2 * i) (omega (arith, within)), weight_value 16 digits (2 * i + 1) within)

pub pair_more : (n a b i : ℕ) → a ≤ 2 ^ 32 → b ≤ 2 ^ 32 → n + 2 ^ 32 ≤ 2 ^ 32 * 16 ^ (2 * i) → n * 256 + (16 * a + b) + 2 ^ 32 ≤ 2 ^ 32 * 16 ^ (2 * (i + 1))
pair_more n a b i first second bound =
    let place : 2 * (i + 1) ≡ 2 * i + 1 + 1 = omega arith in
    omega (arith, ap (λ k. 16 ^ k) place, weight_more 16 (n * 16 + a) b (2 * i + 1) (omega arith) second (weight_more 16 n a (2 * i) (omega arith) first bound))

pub pair_fits : (n a b i : ℕ) → a ≤ 2 ^ 32 → b ≤ 2 ^ 32 → i < 4 → n + 2 ^ 32 ≤ 2 ^ 32 * 16 ^ (2 * i) → n * 256 + (16 * a + b) + 2 ^ 32 ≤ 2 ^ 64
pair_fits n a b i first second few bound = weight_fits 16 _ (2 * (i + 1)) (omega arith) (omega arith) (omega (arith, few)) (pair_more n a b i first second bound)

pub is_decimal : (b : ℕ) → weight 10 b < 10 → is_digit b 10 ≡ true
is_decimal b small = elim (cases_Bool (is_digit b 10)) [ inl digit ↦ digit | inr other ↦ absurd (omega (arith, rw other at small)) ]

pub weight_digit : (b : ℕ) → is_digit b 10 ≡ true → weight 10 b ≡ digit_value b
weight_digit b digit = rw digit refl

white_no_digit : (b : ℕ) → is_white b ≡ true → is_digit b 10 ≡ false
white_no_digit b white = one_of (λ c. is_digit c 10) b (0 ∷ 9 ∷ 10 ∷ 12 ∷ 13 ∷ 32 ∷ []) refl white

-- ---- the decimal digits that a part of a text begins with
-- digits that a white byte follows
closed : (len n : ℕ) (text : List ℕ) → 1 ≤ len → len ≤ 8 → len < length text → is_white (get_or text len 0) ≡ true → digits_value 10 (take len text) ≡ Some n → decimal_front text ≡ Some (n, len)
closed len n text some few within white is =
    let front = take len text in
    let are = written 10 8 front n (omega arith) (omega (arith, length-take len text)) is in
    let whole : text ≡ front ++ drop len text = sym (take-append-drop len text) in
    let stops : begins (λ c. is_digit c 10) (drop len text) ≡ false = rw (drop_more text len 0 within) (white_no_digit (get_or text len 0) white) in
    let found : digits_len 10 text ≡ len = ap (digits_len 10) whole ∙ prefix_ends (λ c. is_digit c 10) front (drop len text) are.all stops ∙ length-take-le len text (omega arith) in
    let filled : nat_le 1 len ≡ true = le-leb 1 len some in
    let fits : nat_le len 18 ≡ true = le-leb len 18 (omega arith) in
    let ends : nat_lt len (length text) ≡ true = lt-ltb len (length text) within in
    rw (found, filled, fits, ends, white) (ap (λ k. Some (k, len)) (sym are.number))

closed_front : (len : ℕ) (text : List ℕ) (found : Option ℕ) → 1 ≤ len → len ≤ 8 → len < length text → is_white (get_or text len 0) ≡ true
    → found ≡ digits_value 10 (take len text) → IfSome found (λ n. decimal_front text ≡ Some (n, len))
closed_front len text None some few within white is = tt
closed_front len text (Some n) some few within white is = closed len n text some few within white (sym is)

-- and a white byte stands before them
pub spaced_front : (len : ℕ) (text : List ℕ) (found : Option ℕ) → 1 ≤ len → len ≤ 8 → len + 1 < length text → is_white (get_or text 0 0) ≡ true → is_white (get_or text (len + 1) 0) ≡ true
    → found ≡ digits_value 10 (take (len + 1 - 1) (drop 1 text)) → IfSome found (λ n. spaced_decimal text ≡ Some (n, len))
spaced_front len [] found some few within before after is = absurd (omega (arith, within))
spaced_front len (blank ∷ text) found some few within before after is =
    let place : len + 1 ≡ suc len = omega arith in
    let white : is_white (get_or text len 0) ≡ true = ap (λ i. is_white (get_or (blank ∷ text) i 0)) (sym place) ∙ after in
    let count : len + 1 - 1 ≡ len = omega arith in
    rw before (closed_front len text found some few (omega (arith, within)) white (is ∙ ap (λ n. digits_value 10 (take n text)) count))

-- what the bytes after the first one count, from one of them on
counted_more : (text : List ℕ) (i : ℕ) → i + 1 < length text → number_from_digits 10 (map (weight 10) (take (i + 1) (drop 1 text))) ≡ number_from_digits 10 (map (weight 10) (take i (drop 1 text))) * 10 + weight 10 (get_or text (i + 1) 0)
counted_more [] i within = absurd (omega (arith, within))
counted_more (blank ∷ text) i within = let place : i + 1 ≡ suc i = omega arith in weight_value 10 text i (omega (arith, within)) ∙ ap (λ k. number_from_digits 10 (map (weight 10) (take i text)) * 10 + weight 10 (get_or (blank ∷ text) k 0)) (sym place)

-- and what four and five of them count
pub four_counted : (text : List ℕ) → 6 < length text
    → number_from_digits 10 (map (weight 10) (take 4 (drop 1 text))) ≡ (10 * weight 10 (get_or text 1 0) + weight 10 (get_or text 2 0)) * 100 + (10 * weight 10 (get_or text 3 0) + weight 10 (get_or text 4 0))
four_counted text long =
    let none : number_from_digits 10 (map (weight 10) (take 0 (drop 1 text))) ≡ 0 = refl in
    omega (arith, none, counted_more text 0 (omega (arith, long)), counted_more text 1 (omega (arith, long)), counted_more text 2 (omega (arith, long)), counted_more text 3 (omega (arith, long)))

pub three_counted : (text : List ℕ) → 4 < length text
    → number_from_digits 10 (map (weight 10) (take 3 (drop 1 text))) ≡ (10 * weight 10 (get_or text 1 0) + weight 10 (get_or text 2 0)) * 10 + weight 10 (get_or text 3 0)
three_counted text long =
    let none : number_from_digits 10 (map (weight 10) (take 0 (drop 1 text))) ≡ 0 = refl in
    omega (arith, none, counted_more text 0 (omega (arith, long)), counted_more text 1 (omega (arith, long)), counted_more text 2 (omega (arith, long)))

pub five_counted : (text : List ℕ) → 6 < length text
    → number_from_digits 10 (map (weight 10) (take 5 (drop 1 text))) ≡ ((10 * weight 10 (get_or text 1 0) + weight 10 (get_or text 2 0)) * 100 + (10 * weight 10 (get_or text 3 0) + weight 10 (get_or text 4 0))) * 10 + weight 10 (get_or text 5 0)
five_counted text long = omega (arith, four_counted text long, counted_more text 4 (omega (arith, long)))

-- a short number between two white bytes, by what its bytes count
pub spaced_counted : (len n : ℕ) (text : List ℕ) (found : Option (ℕ × ℕ)) → 1 ≤ len → len ≤ 5 → len + 1 < length text → is_white (get_or text 0 0) ≡ true → is_white (get_or text (len + 1) 0) ≡ true
    → n ≡ number_from_digits 10 (map (weight 10) (take len (drop 1 text))) → MatchOption found (2 ^ 32 ≤ n) (λ first. (first ≡ (n, len)) × (n < 2 ^ 32)) → IfSome found (λ first. spaced_decimal text ≡ Some first)
spaced_counted len n text None some few long before after is found = tt
spaced_counted len n text (Some first) some few long before after is (same, small) =
    let digits = take len (drop 1 text) in
    let count : len + 1 - 1 ≡ len = omega arith in
    let size : length digits ≡ len = length-take-le len (drop 1 text) (omega (arith, length-drop 1 text, few, long)) in
    let value = sym (light 10 digits n (omega arith) (omega (arith, size, some)) is small) ∙ ap (λ k. digits_value 10 (take k (drop 1 text))) (sym count) in
    rw same (spaced_front len text (Some n) some (omega (arith, few)) (omega (arith, few, long)) before after value)

-- the digits that a text begins with, and the byte after them
pub decimal_from : (text : List ℕ) (number len : ℕ) → Some (number, len) ≡ leading_decimal text → (len ≡ 0 → ⊥) → is_regular (get_or text len 0) ≡ false → (Some (number, len) ≡ decimal_front text) × (len ≤ length text)
decimal_from text number len e some special =
    let n = digits_len 10 text in
    let few : Bool = nat_le n 18 in
    let ends : Bool = nat_lt n (length text) in
    let (test, same) = chosen (few && ends) (Some (digits_number 10 (take n text), n)) (number, len) (sym e) in
    let found : n ≡ len = ap (λ p. p.1) (same_Some _ _ same) in
    let (is_few, within) = and_parts few ends test in
    let stops : is_regular (get_or text n 0) ≡ false = ap (λ k. is_regular (get_or text k 0)) found ∙ special in
    let filled : nat_le 1 n ≡ true = le-leb 1 n (omega (arith, found, some)) in
    (sym (rw (filled, is_few, within, stops) same), omega (arith, found, ltb-true n (length text) within))

pub no_decimal : (text : List ℕ) → None ≡ leading_decimal text → None ≡ decimal_front text
no_decimal text e =
    let n = digits_len 10 text in
    elim (cases_Bool (nat_le n 18 && nat_lt n (length text))) [
      | inl both ↦ let clash = rw both at e in cc
      | inr fails ↦ elim (and_cases (nat_le n 18) (nat_lt n (length text)) fails) [
        | inl many ↦ sym (cond-false _ _ _ (and_left _ _ (and_left _ _ (and_right (nat_le 1 n) _ many))))
        | inr open_end ↦ sym (cond-false _ _ _ (and_left _ _ (and_right (nat_le 1 n && nat_le n 18) _ open_end)))
      ]
    ]

pub not_decimal : (text : List ℕ) (number len : ℕ) → Some (number, len) ≡ leading_decimal text → (len ≡ 0) ⊎ (is_regular (get_or text len 0) ≡ true) → None ≡ decimal_front text
not_decimal text number len e fails =
    let n = digits_len 10 text in
    let (test, same) = chosen (nat_le n 18 && nat_lt n (length text)) (Some (digits_number 10 (take n text), n)) (number, len) (sym e) in
    let found : n ≡ len = ap (λ p. p.1) (same_Some _ _ same) in
    elim fails [
      | inl none ↦ sym (cond-false _ _ _ (and_left _ _ (and_left _ _ (and_left _ (nat_le n 18) (lt-leb 1 n (omega (arith, found, none)))))))
      | inr regular ↦ sym (cond-false _ _ _ (and_right (nat_le 1 n && nat_le n 18 && nat_lt n (length text)) _ (not_from_true _ (ap (λ k. is_regular (get_or text k 0)) found ∙ regular))))
    ]

prefix_take : (p : ℕ → Bool) (n : ℕ) (text : List ℕ) → prefix_len p (take n text) ≡ min n (prefix_len p text)
prefix_take p zero text = omega arith
prefix_take p (suc n) [] = omega arith
prefix_take p (suc n) (b ∷ text) =
    elim (cases_Bool (p b)) [
      | inl passes ↦ rw passes (omega (arith, prefix_take p n text))
      | inr fails ↦ rw fails (omega arith)
    ]

-- what is read of the first n bytes is read of the text
pub window_some : (n : ℕ) (text : List ℕ) (first : ℕ × ℕ) → n ≤ length text → n ≤ 19 → leading_digits (take n text) ≡ Some first → leading_decimal text ≡ Some first
window_some n text first within few is =
    let front = take n text in
    let size = length-take-le n text within in
    let len = digits_len 10 text in
    let found = digits_len 10 front in
    let (test, read) = chosen (nat_lt found (length front)) (Some (digits_number 10 (take found front), found)) first is in
    let same : found ≡ len = omega (arith, ltb-true found (length front) test, prefix_take (λ c. is_digit c 10) n text, size) in
    let small : len < n = omega (arith, ltb-true found (length front) test, same, size) in
    let most : nat_le len 18 ≡ true = le-leb len 18 (omega (arith, small, few)) in
    let ends : nat_lt len (length text) ≡ true = lt-ltb len (length text) (omega (arith, small, within)) in
    rw (most, ends) (sym (ap (λ k. Some (digits_number 10 (take k front), k)) same ∙ ap (λ digits. Some (digits_number 10 digits, len)) (take-take len n text (omega (arith, small)))) ∙ read)

-- and where nothing is, of as many bytes as count, there is nothing
window_none : (n : ℕ) (text : List ℕ) → n ≡ min (length text) 19 → leading_digits (take n text) ≡ None → leading_decimal text ≡ None
window_none n text most is =
    let front = take n text in
    let size = length-take n text in
    let len = digits_len 10 text in
    let found = digits_len 10 front in
    let many : n ≤ len =
    elim (cases_Bool (nat_lt found (length front))) [
      | inl ends ↦ absurd (none-some (digits_number 10 (take found front), found) (sym is ∙ rw ends refl))
      | inr on ↦ omega (arith, ltb-false found (length front) on, prefix_take (λ c. is_digit c 10) n text, size, most)
    ] in
    elim (cases_Bool (nat_le len 18 && nat_lt len (length text))) [
      | inl both ↦ let (few, ends) = and_parts (nat_le len 18) (nat_lt len (length text)) both in absurd (omega (arith, leb-true len 18 few, ltb-true len (length text) ends, many, most))
      | inr fails ↦ rw fails refl
    ]

window_is : (n : ℕ) (text : List ℕ) (found : Option (ℕ × ℕ)) → n ≡ min (length text) 19 → leading_digits (take n text) ≡ found → found ≡ leading_decimal text
window_is n text None most is = sym (window_none n text most is)
window_is n text (Some first) most is = sym (window_some n text first (omega (arith, most)) (omega (arith, most)) is)

pub window_most : (n : ℕ) (text : List ℕ) → n ≡ min (length text) 19 → leading_digits (take n text) ≡ leading_decimal text
window_most n text most = window_is n text (leading_digits (take n text)) most refl

-- ---- the bytes of paired hexadecimal digits
-- digits in pairs, and the bytes that they stand for
abbrev pub Pairs : List ℕ → List ℕ → Type 0
Pairs digits bytes =
    ((n : ℕ) → number_from_digits_after 16 n (map digit_value digits) ≡ number_from_digits_after 256 n bytes) × (2 * length bytes ≡ length digits) × AllByRecursion (λ b. b < 2 ^ 8) bytes

pub paired : (digits : List ℕ) → list_all (λ c. is_digit c 16) digits ≡ true → length digits % 2 ≡ 0 → Pairs digits (hex_value digits)
paired [] all even = (λ n. refl, refl, tt)
paired (a ∷ []) all even = absurd (omega (arith, even))
paired (a ∷ b ∷ more) all even =
    let (first, later) = and_parts (is_digit a 16) (list_all (λ c. is_digit c 16) (b ∷ more)) all in
    let (second, others) = and_parts (is_digit b 16) (list_all (λ c. is_digit c 16) more) later in
    let (number, long, bytes) = paired more others (omega (arith, even)) in
    let byte : 16 * digit_value a + digit_value b < 2 ^ 8 = omega (arith, ltb-true (digit_value a) 16 first, ltb-true (digit_value b) 16 second) in
    let joined : (n : ℕ) → (n * 16 + digit_value a) * 16 + digit_value b ≡ n * 256 + (16 * digit_value a + digit_value b) = λ n. omega arith in
    rw (first, second) (λ n. ap (λ k. number_from_digits_after 16 k (map digit_value more)) (joined n) ∙ number (n * 256 + (16 * digit_value a + digit_value b)), omega (arith, long), (byte, bytes))

-- the bytes of digits in two parts
pub pairs_split : (front rest : List ℕ) → list_all (λ c. is_digit c 16) front ≡ true → length front % 2 ≡ 0 → hex_value (front ++ rest) ≡ hex_value front ++ hex_value rest
pairs_split [] rest all even = refl
pairs_split (a ∷ []) rest all even = absurd (omega (arith, even))
pairs_split (a ∷ b ∷ more) rest all even =
    let (first, later) = and_parts (is_digit a 16) (list_all (λ c. is_digit c 16) (b ∷ more)) all in
    let (second, others) = and_parts (is_digit b 16) (list_all (λ c. is_digit c 16) more) later in
    rw (first, second) (ap (λ bytes. (16 * digit_value a + digit_value b) ∷ bytes) (pairs_split more rest others (omega (arith, even))))

-- digits in pairs are read
pub pairs_read : (digits : List ℕ) (n : ℕ) → Written 16 8 digits n → length digits ≤ 8 → length digits % 2 ≡ 0
    → ArePairs digits × (length digits / 2 ≡ length (hex_value digits)) × (n ≡ number_from_digits 256 (hex_value digits))
pairs_read digits n is few even =
    let are = paired digits is.all even in
    ((is.all, even, is.filled, few), omega (arith, are.1), is.number ∙ are.0 0)

pub not_capped : (base : ℕ) (digits : List ℕ) → are_digits base digits ≡ false → None ≡ capped base digits
not_capped base digits fails = rw fails refl

pub is_capped : (base n : ℕ) (digits : List ℕ) → 0 < length digits → list_all (λ c. is_digit c base) digits ≡ true → n ≡ min (digits_number base digits) (2 ^ 64 - 1) → Some n ≡ capped base digits
is_capped base n digits some all is =
    let are : are_digits base digits ≡ true = and_from _ _ (lt-ltb 0 (length digits) some) all in rw are (ap Some is)

pub no_pairs : (digits : List ℕ) → None ≡ capped 16 digits → ArePairs digits → ⊥
no_pairs digits e pairs =
    let are : are_digits 16 digits ≡ true = and_from _ _ (lt-ltb 0 (length digits) pairs.2) pairs.0 in
    let some : capped 16 digits ≡ Some (min (digits_number 16 digits) (2 ^ 64 - 1)) = rw are refl in
    none-some _ (e ∙ some)

-- ---- a run of decimal digits is the number that they write
pub digit_regular : (b : ℕ) → is_digit b 10 ≡ true → is_regular b ≡ true
digit_regular b digit =
    let p : ℕ → Bool = λ c. is_digit c 10 in
    and_from _ _ (not_from_false _ (none_of p b (0 ∷ 9 ∷ 10 ∷ 12 ∷ 13 ∷ 32 ∷ []) refl digit)) (not_from_false _ (none_of p b (codes "()<>[]{}/%") refl digit))

pub digits_numeral : (digits : List ℕ) → 0 < length digits → list_all (λ c. is_digit c 10) digits ≡ true → digits_number 10 digits < 2 ^ 63 → numeral digits ≡ Some (Integer (pos (digits_number 10 digits)))
unfolding numeral integer
digits_numeral [] some all small = absurd (omega (arith, some))
digits_numeral (b ∷ digits) some all small =
    let first : is_digit b 10 ≡ true = (and_parts (is_digit b 10) (list_all (λ c. is_digit c 10) digits) all).0 in
    let not_minus : (b == 45) ≡ false = other_byte (λ c. is_digit c 10) 45 b refl first in
    let not_plus : (b == 43) ≡ false = other_byte (λ c. is_digit c 10) 43 b refl first in
    let are : are_digits 10 (b ∷ digits) ≡ true = and_from _ _ (lt-ltb 0 (length (b ∷ digits)) some) all in
    let fits : nat_le (digits_number 10 (b ∷ digits)) (2 ^ 63 - 1) ≡ true = le-leb _ (2 ^ 63 - 1) (omega (arith, small)) in
    rw (not_minus, not_plus, are, fits) refl
