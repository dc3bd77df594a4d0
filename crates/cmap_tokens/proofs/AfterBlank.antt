-- A token that stands after one white byte.
use Rattle.std.proofs.Common.{suc, ◌≡◌, ℕ, ◌+◌, ◌<◌, ◌≤◌, ◌^◌, ◌==◌, Bool, false, true, List, [], ◌∷◌, ◌++◌, length, get_or, take, drop, ◌*◌, length-append, Some, ◌⊎◌, ⊎_elim, inl, inr, refl, sym, ap, ◌∙◌, subst, arith, append_assoc, length-drop, length-take-le}
use Rattle.std.specs.Prelude.{option_and_then, option_map, IfSome, IsTrue, None, Option, ◌&&◌, nat_le, nat_lt, not, pos}
use Rattle.std.specs.Char.{is_digit}
use Rattle.std.specs.List.{list_all}
use Rattle.std.specs.Option.{option_map_or, option_or}
use Rattle.std.proofs.lemmas.Option.{none-some, same_Some}
use Rattle.std.proofs.Math.Seq.{drop-cons}
use Rattle.std.proofs.lemmas.Bool.{and_parts, eqb-true, false≢true, leb-true, ltb-true, or_right}
use Rattle.std.proofs.lemmas.List.{drop_at, drop_more, take-append-drop, take_more}
use Rattle.cmap_tokens.specs.Bytes.{begins, is_white, is_regular}
use Rattle.cmap_tokens.specs.Numbers.{Integer, decimal_front, digits_len, digits_value, digits_number}
use Rattle.cmap_tokens.specs.Scanner.{FirstToken, OnlyFront, closed_number, closed_pairs, closed_parts, short_pairs, spaced_pairs, spaced_parts, spaced_decimal, spaced_two_bytes}
use Rattle.cmap_tokens.specs.Strings.{IsOnlyValue, WritesBytes, WritesParts, WritesTwoBytes, hex_value, inside}
use Rattle.cmap_tokens.specs.Tokens.{Token, Name, Numeral, String, Front, IsHexString, IsToken, begins_name, is_hex_body}
use Rattle.cmap_tokens.proofs.ByteTests.{all_append, all_front, byte_within, chosen, all_weaker, other_byte}
use Rattle.cmap_tokens.proofs.Digits.{pairs_read, pairs_split, digit_regular, digits_numeral, digits_small, paired, written}
use Rattle.cmap_tokens.proofs.Fronts.{front_only}
use Rattle.cmap_tokens.proofs.StringValues.{Answers, inside_is, one_value, plain_value}

fails : (test : Bool) → not test ≡ true → test ≡ false
fails false e = refl
fails true e = absurd (false≢true e)

first_after_blank : (text : List ℕ) (blank len : ℕ) (piece rest : List ℕ) (token : Token) → text ≡ blank ∷ piece ++ rest → is_white blank ≡ true → IsToken piece token → (IsTrue (begins_name piece) → begins is_regular rest ≡ false) → len ≡ 1 + length piece → FirstToken text token len
first_after_blank text blank len piece rest token whole white is longest long =
    let not_percent : (blank == 37) ≡ false = other_byte is_white 37 blank refl white in
    let front : Front text (blank ∷ []) piece token rest = record { whole = whole; gap_is = rw (not_percent, white) refl; piece_is = is; longest = longest } in
    let after : rest ≡ drop len text = sym (ap (drop len) whole ∙ drop_at (blank ∷ piece) rest len (omega (arith, long))) in
    (_, _, subst (OnlyFront text _ piece token) after (front_only front), long)

-- ---- < four digits >
two_bytes_written : (a b c d n : ℕ) → let digits : List ℕ = a ∷ b ∷ c ∷ d ∷ [] in list_all (λ k. is_digit k 16) digits ≡ true → n ≡ digits_number 16 digits → WritesTwoBytes (60 ∷ a ∷ b ∷ c ∷ d ∷ 62 ∷ []) n × IsHexString (60 ∷ a ∷ b ∷ c ∷ d ∷ 62 ∷ [])
two_bytes_written a b c d n all is =
    let digits : List ℕ = a ∷ b ∷ c ∷ d ∷ [] in
    let piece : List ℕ = 60 ∷ a ∷ b ∷ c ∷ d ∷ 62 ∷ [] in
    let are = paired digits all refl in
    let hex : IsHexString piece = (digits, refl, all_weaker (λ k. is_digit k 16) is_hex_body digits (λ k digit. or_right (is_white k) (is_digit k 16) digit) all) in
    ((hex_value digits, record { holds = inl (hex, refl); alone = λ other other_is. one_value piece other _ other_is (inl (hex, refl)) }, are.2, omega (arith, are.1), is ∙ are.0 0), hex)

abbrev TwoBytes : List ℕ → ℕ → Type 0
TwoBytes text n = (piece : List ℕ) × FirstToken text (String piece) 7 × WritesTwoBytes piece n

two_bytes_at : (blank l a b c d g n : ℕ) (rest : List ℕ) → ((g == 62) && (l == 60) && is_white blank) ≡ true → digits_value 16 (a ∷ b ∷ c ∷ d ∷ []) ≡ Some n → TwoBytes (blank ∷ l ∷ a ∷ b ∷ c ∷ d ∷ g ∷ rest) n
two_bytes_at blank l a b c d g n rest tests read =
    let (ends, white) = and_parts ((g == 62) && (l == 60)) (is_white blank) tests in
    let (ends, opens) = and_parts (g == 62) (l == 60) ends in
    let greater : g ≡ 62 = eqb-true g 62 ends in
    let less : l ≡ 60 = eqb-true l 60 opens in
    let is = written 16 4 (a ∷ b ∷ c ∷ d ∷ []) n (omega arith) (omega arith) read in
    let (writes, hex) = two_bytes_written a b c d n is.all is.number in
    (_, first_after_blank _ blank 7 _ rest _ (rw (greater, less) refl) white (inr (inr (inr (inl hex, refl)))) (λ h. absurd (false≢true h)) refl, writes)

-- a text that is long enough, by its bytes
seven_bytes : (text : List ℕ) → 6 < length text → text ≡ get_or text 0 0 ∷ get_or text 1 0 ∷ get_or text 2 0 ∷ get_or text 3 0 ∷ get_or text 4 0 ∷ get_or text 5 0 ∷ get_or text 6 0 ∷ drop 7 text
seven_bytes text long =
    drop_more text 0 0 (omega (arith, long)) ∙ ap (λ t. get_or text 0 0 ∷ t) (drop_more text 1 0 (omega (arith, long)) ∙ ap (λ t. get_or text 1 0 ∷ t) (drop_more text 2 0 (omega (arith, long)) ∙ ap (λ t. get_or text 2 0 ∷ t) (drop_more text 3 0 (omega (arith, long))
    ∙ ap (λ t. get_or text 3 0 ∷ t) (drop_more text 4 0 (omega (arith, long)) ∙ ap (λ t. get_or text 4 0 ∷ t) (drop_more text 5 0 (omega (arith, long)) ∙ ap (λ t. get_or text 5 0 ∷ t) (drop_more text 6 0 long))))))

pub two_bytes_first : (text : List ℕ) (n : ℕ) → spaced_two_bytes text ≡ Some n → TwoBytes text n
two_bytes_first text n e =
    let tests : Bool = (get_or text 6 0 == 62) && (get_or text 1 0 == 60) && is_white (get_or text 0 0) in
    let (are, read) = chosen tests (digits_value 16 (take 4 (drop 2 text))) n e in
    let ends = (and_parts (get_or text 6 0 == 62) (get_or text 1 0 == 60) (and_parts ((get_or text 6 0 == 62) && (get_or text 1 0 == 60)) (is_white (get_or text 0 0)) are).0).0 in
    let whole = seven_bytes text (byte_within text 6 62 (eqb-true _ 62 ends) (omega arith)) in
    subst (λ t. TwoBytes t n) (sym whole)
    (two_bytes_at (get_or text 0 0) (get_or text 1 0) (get_or text 2 0) (get_or text 3 0) (get_or text 4 0) (get_or text 5 0) (get_or text 6 0) n (drop 7 text) are (ap (λ t. digits_value 16 (take 4 (drop 2 t))) (sym whole) ∙ read))

-- ---- < one to four pairs of digits >
closed_first : (blank count n : ℕ) (text : List ℕ) → is_white blank ≡ true → 1 ≤ count → count ≤ 4 → closed_number (2 * count) text ≡ Some n
    → (piece : List ℕ) × FirstToken (blank ∷ 60 ∷ text) (String piece) (3 + 2 * count) × WritesBytes piece count n
closed_first blank count n text white some few e =
    let len = 2 * count in
    let digits = take len text in
    let piece : List ℕ = 60 ∷ digits ++ 62 ∷ [] in
    let rest = drop (len + 1) text in
    let (ends, read) = chosen (get_or text len 0 == 62) (digits_value 16 digits) n e in
    let last : get_or text len 0 ≡ 62 = eqb-true _ 62 ends in
    let within : len < length text = byte_within text len 62 last (omega arith) in
    let size : length digits ≡ len = length-take-le len text (omega (arith, within)) in
    let is = written 16 8 digits n (omega arith) (omega (arith, size, few)) read in
    let whole : text ≡ (digits ++ 62 ∷ []) ++ rest = sym (take-append-drop (len + 1) text) ∙ ap (λ front. front ++ rest) (take_more text len 0 within ∙ ap (λ b. digits ++ b ∷ []) last) in
    let hex : IsHexString piece = (digits, refl, all_weaker (λ k. is_digit k 16) is_hex_body digits (λ k digit. or_right (is_white k) (is_digit k 16) digit) is.all) in
    let (pairs, bytes, number) = pairs_read digits n is (omega (arith, size, few)) (omega (arith, size)) in
    let body : inside piece ≡ digits = inside_is 60 62 digits in
    let answer : Answers (inside piece) (Some (count, n)) = rw body (pairs, omega (arith, bytes, size), number) in (
      piece,
      first_after_blank (blank ∷ 60 ∷ text) blank (3 + len) piece rest (String piece) (ap (λ t. blank ∷ 60 ∷ t) whole) white (inr (inr (inr (inl hex, refl)))) (λ h. absurd (false≢true h)) (omega (arith, size, length-append digits (62 ∷ []))),
      plain_value piece (Some (count, n)) hex answer,
    )

counted : (count : ℕ) (found : Option ℕ) (first : ℕ × ℕ) → option_map (λ n. (count, n)) found ≡ Some first → (found ≡ Some first.1) × (first.0 ≡ count)
counted count None first e = absurd (none-some first e)
counted count (Some n) first e = let same = same_Some _ _ e in (ap (λ p. Some p.1) same, ap (λ p. p.0) (sym same))

pairs_of : (blank count : ℕ) (text : List ℕ) (first : ℕ × ℕ) → is_white blank ≡ true → 1 ≤ count → count ≤ 4 → closed_pairs count text ≡ Some first → (piece : List ℕ) × FirstToken (blank ∷ 60 ∷ text) (String piece) (3 + 2 * first.0) × WritesBytes piece first.0 first.1
pairs_of blank count text first white some few e =
    let (read, same) = counted count (closed_number (2 * count) text) first e in
    rw same (closed_first blank count first.1 text white some few read)

-- the first that is there
cases_or : {A : Type 0} (x y : Option A) (z : A) → option_or x y ≡ Some z → (x ≡ Some z) ⊎ (y ≡ Some z)
cases_or None y z e = inr e
cases_or (Some x) y z e = inl e

short_first : (blank : ℕ) (rest : List ℕ) (first : ℕ × ℕ) → is_white blank ≡ true → short_pairs rest ≡ Some first → (piece : List ℕ) × FirstToken (blank ∷ 60 ∷ rest) (String piece) (3 + 2 * first.0) × WritesBytes piece first.0 first.1
short_first blank rest first white e =
    ⊎_elim (pairs_of blank 1 rest first white (omega arith) (omega arith)) (λ e.
    ⊎_elim (pairs_of blank 2 rest first white (omega arith) (omega arith)) (λ e.
    ⊎_elim (pairs_of blank 3 rest first white (omega arith) (omega arith)) (pairs_of blank 4 rest first white (omega arith) (omega arith)) (cases_or (closed_pairs 3 rest) (closed_pairs 4 rest) first e)) (cases_or (closed_pairs 2 rest) _ first e)) (cases_or (closed_pairs 1 rest) _ first e)

pairs_at : (text : List ℕ) (first : ℕ × ℕ) → spaced_pairs text ≡ Some first → (piece : List ℕ) × FirstToken text (String piece) (3 + 2 * first.0) × WritesBytes piece first.0 first.1
pairs_at [] first e = absurd (none-some first e)
pairs_at (a ∷ []) first e = absurd (none-some first e)
pairs_at (blank ∷ l ∷ rest) first e =
    let (tests, read) = chosen ((l == 60) && is_white blank) (short_pairs rest) first e in
    let (opens, white) = and_parts (l == 60) (is_white blank) tests in
    let less : l ≡ 60 = eqb-true l 60 opens in
    rw less (short_first blank rest first white read)

pub pairs_first : (text : List ℕ) (count number pairs : ℕ) → pairs ≡ count → spaced_pairs text ≡ Some (count, number) → (piece : List ℕ) × FirstToken text (String piece) (3 + 2 * pairs) × WritesBytes piece count number
pairs_first text count number pairs same e = rw same (pairs_at text (count, number) e)

-- ---- < six or eight pairs of digits >
parts_are : (x y : Option ℕ) (count : ℕ) (first : ℕ × ℕ × ℕ) → option_and_then (λ high. option_map (λ low. (count, high, low)) y) x ≡ Some first → (x ≡ Some first.1) × (y ≡ Some first.2) × (first.0 ≡ count)
parts_are None y count first e = absurd (none-some first e)
parts_are (Some high) None count first e = absurd (none-some first e)
parts_are (Some high) (Some low) count first e = let same = same_Some _ _ e in (ap (λ p. Some p.1) same, ap (λ p. Some p.2) same, ap (λ p. p.0) (sym same))

abbrev Parts : List ℕ → ℕ × ℕ × ℕ → Type 0
Parts text first = (piece : List ℕ) × FirstToken text (String piece) (3 + 2 * first.0) × WritesParts piece first.0 first.1 first.2

parts_of : (blank count : ℕ) (text : List ℕ) (first : ℕ × ℕ × ℕ) → is_white blank ≡ true → 1 ≤ count → count ≤ 4 → closed_parts count text ≡ Some first → Parts (blank ∷ 60 ∷ text) first
parts_of blank count text first white some few e =
    let len = 2 * count in
    let front = take 8 text in
    let after = drop 8 text in
    let rest = take len after in
    let digits = front ++ rest in
    let piece : List ℕ = 60 ∷ digits ++ 62 ∷ [] in
    let end = drop (len + 1) after in
    let (high, closed, counted) = parts_are (digits_value 16 front) (closed_number len after) (4 + count) first e in
    let (ends, low) = chosen (get_or after len 0 == 62) (digits_value 16 rest) first.2 closed in
    let last : get_or after len 0 ≡ 62 = eqb-true _ 62 ends in
    let within : len < length after = byte_within after len 62 last (omega arith) in
    let front_size : length front ≡ 8 = length-take-le 8 text (omega (arith, within, length-drop 8 text)) in
    let rest_size : length rest ≡ len = length-take-le len after (omega (arith, within)) in
    let high_is = written 16 8 front first.1 (omega arith) (omega (arith, front_size)) high in
    let low_is = written 16 8 rest first.2 (omega arith) (omega (arith, rest_size, few)) low in
    let after_is : after ≡ (rest ++ 62 ∷ []) ++ end = sym (take-append-drop (len + 1) after) ∙ ap (λ t. t ++ end) (take_more after len 0 within ∙ ap (λ b. rest ++ b ∷ []) last) in
    let whole : text ≡ (digits ++ 62 ∷ []) ++ end = sym (take-append-drop 8 text) ∙ ap (λ t. front ++ t) after_is ∙ simp append_assoc in
    let all = all_append (λ k. is_digit k 16) front rest high_is.all low_is.all in
    let hex : IsHexString piece = (digits, refl, all_weaker (λ k. is_digit k 16) is_hex_body digits (λ k digit. or_right (is_white k) (is_digit k 16) digit) all) in
    let value : hex_value (inside piece) ≡ hex_value front ++ hex_value rest = ap hex_value (inside_is 60 62 digits) ∙ pairs_split front rest high_is.all (omega (arith, front_size)) in
    let only : IsOnlyValue piece (hex_value (inside piece)) = record { holds = inl (hex, refl); alone = λ other other_is. one_value piece other _ other_is (inl (hex, refl)) } in
    let (front_pairs, front_bytes, front_number) = pairs_read front first.1 high_is (omega (arith, front_size)) (omega (arith, front_size)) in
    let (rest_pairs, rest_bytes, rest_number) = pairs_read rest first.2 low_is (omega (arith, rest_size, few)) (omega (arith, rest_size)) in (
      piece,
      first_after_blank (blank ∷ 60 ∷ text) blank (3 + 2 * first.0) piece end (String piece) (ap (λ t. blank ∷ 60 ∷ t) whole) white (inr (inr (inr (inl hex, refl)))) (λ h. absurd (false≢true h)) (omega (arith, counted, front_size, rest_size, length-append front rest, length-append digits (62 ∷ []))),
      (
        hex_value front,
        hex_value rest,
        subst (IsOnlyValue piece) value only,
        (paired front high_is.all (omega (arith, front_size))).2,
        (paired rest low_is.all (omega (arith, rest_size))).2,
        omega (arith, front_bytes, front_size),
        omega (arith, counted, rest_bytes, rest_size),
        front_number,
        rest_number,
      ),
    )

parts_at : (text : List ℕ) (first : ℕ × ℕ × ℕ) → spaced_parts text ≡ Some first → Parts text first
parts_at [] first e = absurd (none-some first e)
parts_at (a ∷ []) first e = absurd (none-some first e)
parts_at (blank ∷ l ∷ rest) first e =
    let (tests, read) = chosen ((l == 60) && is_white blank) (option_or (closed_parts 2 rest) (closed_parts 4 rest)) first e in
    let (opens, white) = and_parts (l == 60) (is_white blank) tests in
    let less : l ≡ 60 = eqb-true l 60 opens in
    rw less (⊎_elim (parts_of blank 2 rest first white (omega arith) (omega arith)) (parts_of blank 4 rest first white (omega arith) (omega arith)) (cases_or (closed_parts 2 rest) (closed_parts 4 rest) first read))

pub parts_first : (text : List ℕ) (count high low pairs : ℕ) → pairs ≡ count → spaced_parts text ≡ Some (count, high, low) → (piece : List ℕ) × FirstToken text (String piece) (3 + 2 * pairs) × WritesParts piece count high low
parts_first text count high low pairs same e = rw same (parts_at text (count, high, low) e)

-- ---- decimal digits
record Decimal (text : List ℕ) (number len : ℕ) : Type 0 where
  len_is : digits_len 10 text ≡ len
  number_is : digits_number 10 (take len text) ≡ number
  filled : 0 < len
  few : len ≤ 18
  within : len < length text
  special : is_regular (get_or text len 0) ≡ false

decimal_is : (text : List ℕ) (first : ℕ × ℕ) → decimal_front text ≡ Some first → Decimal text first.0 first.1
decimal_is text first e =
    let len = digits_len 10 text in
    let number = digits_number 10 (take len text) in
    let many : Bool = nat_le 1 len && nat_le len 18 in
    let last : Bool = not (is_regular (get_or text len 0)) in
    let (tests, read) = chosen (many && nat_lt len (length text) && last) (Some (number, len)) first e in
    let (others, special) = and_parts (many && nat_lt len (length text)) last tests in
    let (few, within) = and_parts many (nat_lt len (length text)) others in
    let (filled, few) = and_parts (nat_le 1 len) (nat_le len 18) few in
    let is : Decimal text number len = record {
      len_is = refl;
      number_is = refl;
      filled = leb-true 1 len filled;
      few = leb-true len 18 few;
      within = ltb-true len (length text) within;
      special = fails (is_regular (get_or text len 0)) special;
    } in
    subst (λ (r : Option (ℕ × ℕ)). IfSome r (λ k. Decimal text k.0 k.1)) read is

pub decimal_first : (text : List ℕ) (number len : ℕ) → spaced_decimal text ≡ Some (number, len) → FirstToken text (Numeral (Integer (pos number))) (1 + len) × (number < 10 ^ 18)
decimal_first [] number len e = absurd (none-some (number, len) e)
decimal_first (blank ∷ text) number len e =
    let p : ℕ → Bool = λ c. is_digit c 10 in
    let (white, front) = chosen (is_white blank) (decimal_front text) (number, len) e in
    let is = decimal_is text (number, len) front in
    let piece = take len text in
    let long : length piece ≡ len = length-take-le len text (omega (arith, is.within)) in
    let digits : list_all p piece ≡ true = all_front p len text (omega (arith, is.len_is)) in
    let small = digits_small 10 18 piece (omega arith) digits (omega (arith, long, is.few)) in
    let spelled = digits_numeral piece (omega (arith, long, is.filled)) digits (omega (arith, small)) in (
      first_after_blank (blank ∷ text) blank (1 + len) piece (drop len text) (Numeral (Integer (pos number))) (ap (λ t. blank ∷ t) (sym (take-append-drop len text))) white
          (inl ((omega (arith, long, is.filled), all_weaker p is_regular piece digit_regular digits), sym (ap (λ n. option_map_or Numeral n (Name false piece)) (spelled ∙ ap (λ n. Some (Integer (pos n))) is.number_is))))
          (λ _. ap (begins is_regular) (drop-cons text len 0 is.within) ∙ is.special) (omega (arith, long)),
      omega (arith, small, is.number_is),
    )

-- ---- a second white byte
after_white : (blank len : ℕ) (text : List ℕ) (token : Token) → is_white blank ≡ true → FirstToken text token len → FirstToken (blank ∷ text) token (1 + len)
after_white blank len text token white (gap, piece, only, long) =
    let not_percent : (blank == 37) ≡ false = other_byte is_white 37 blank refl white in
    let front : Front (blank ∷ text) (blank ∷ gap) piece token (drop len text)
    = record { whole = ap (λ t. blank ∷ t) only.front.whole; gap_is = rw (not_percent, white) only.front.gap_is; piece_is = only.front.piece_is; longest = only.front.longest } in
    let place : suc len ≡ 1 + len = omega arith in
    (blank ∷ gap, piece, subst (OnlyFront (blank ∷ text) (blank ∷ gap) piece token) (ap (λ n. drop n (blank ∷ text)) place) (front_only front), omega (arith, long))

pub padded_first : (text : List ℕ) (number len : ℕ) → is_white (get_or text 0 0) ≡ true → spaced_decimal (drop 1 text) ≡ Some (number, len) → FirstToken text (Numeral (Integer (pos number))) (1 + (1 + len)) × (number < 10 ^ 18)
padded_first [] number len white e = absurd (none-some (number, len) e)
padded_first (blank ∷ text) number len white e = let (first, small) = decimal_first text number len e in (after_white blank (1 + len) text _ white first, small)
