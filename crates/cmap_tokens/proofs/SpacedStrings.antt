-- Strings after one white byte: what their definitions give where the parts are known.
use Rattle.std.proofs.Common.{◌≡◌, ℕ, ◌+◌, ◌*◌, ◌-◌, ◌%◌, ◌<◌, ◌≤◌, ◌==◌, true, false, List, length, get_or, take, drop, Option, None, Some, refl, sym, ap, ◌∙◌, arith, length-drop}
use Rattle.std.specs.Prelude.{IfSome, option_and_then, option_map, ◌&&◌, if◌then◌else◌}
use Rattle.std.specs.Option.{option_or}
use Rattle.std.proofs.lemmas.Bool.{and_from, and_left, and_parts, and_right, cond-false, cond-true, eq-eqb, eqb-true, false_from_ne_true, ne_eqb}
use Rattle.std.proofs.lemmas.List.{get_or_past, take_rest}
use Rattle.cmap_tokens.specs.Bytes.{is_white}
use Rattle.cmap_tokens.specs.Numbers.{digits_value}
use Rattle.cmap_tokens.specs.Scanner.{closed_number, closed_parts, short_pairs, spaced_pairs, spaced_parts, spaced_two_bytes}

begins : (text : List ℕ) → get_or text 1 0 ≡ 60 → is_white (get_or text 0 0) ≡ true → (get_or text 1 0 == 60 && is_white (get_or text 0 0)) ≡ true
begins text opens white = and_from _ _ (eq-eqb _ _ opens) white

pub spaced_pairs_are : (text : List ℕ) → get_or text 1 0 ≡ 60 → is_white (get_or text 0 0) ≡ true → spaced_pairs text ≡ short_pairs (drop 2 text)
spaced_pairs_are text opens white = cond-true _ _ _ (begins text opens white)

pub spaced_parts_are : (text : List ℕ) → get_or text 1 0 ≡ 60 → is_white (get_or text 0 0) ≡ true → spaced_parts text ≡ option_or (closed_parts 2 (drop 2 text)) (closed_parts 4 (drop 2 text))
spaced_parts_are text opens white = cond-true _ _ _ (begins text opens white)

-- by the number of the first four pairs, and that of the others
pub closed_parts_are : (count : ℕ) (text : List ℕ) (high : ℕ) (low : Option ℕ) → Some high ≡ digits_value 16 (take 8 text) → low ≡ closed_number (2 * count) (drop 8 text) → option_map (λ low. (4 + count, high, low)) low ≡ closed_parts count text
closed_parts_are count text high low e f = ap (option_map (λ low. (4 + count, high, low))) f ∙ ap (option_and_then (λ high. option_map (λ low. (4 + count, high, low)) (closed_number (2 * count) (drop 8 text)))) e

pub short_text : (text : List ℕ) → length text < 7 → spaced_two_bytes text ≡ None
short_text text short = let past : get_or text 6 0 ≡ 0 = get_or_past text 6 0 (omega arith) in rw past refl

pub short_pairs_are : (text : List ℕ) (one two three four : Option ℕ) → one ≡ closed_number 2 text → two ≡ closed_number 4 text → three ≡ closed_number 6 text → four ≡ closed_number 8 text
    → option_or (option_map (λ n. (1, n)) one) (option_or (option_map (λ n. (2, n)) two) (option_or (option_map (λ n. (3, n)) three) (option_map (λ n. (4, n)) four))) ≡ short_pairs text
short_pairs_are text one two three four e f g h = rw (e, f, g, h) refl

-- what is found within the text after < is found within the text
pub pairs_within : (found : Option (ℕ × ℕ)) (text : List ℕ) → 2 ≤ length text → IfSome found (λ first. 2 * first.0 < length (take (length text - 2) (drop 2 text))) → IfSome found (λ first. 3 + 2 * first.0 ≤ length text)
pairs_within None text some within = tt
pairs_within (Some first) text some within = omega (arith, some, within, ap length (take_rest text 2), length-drop 2 text)

pub parts_within : (found : Option (ℕ × ℕ × ℕ)) (text : List ℕ) (count : ℕ) → 2 ≤ length text → 2 ≤ count → count ≤ 4 → count % 2 ≡ 0 → IfSome found (λ first. (first.0 ≡ 4 + count) × (2 * first.0 < length (take (length text - 2) (drop 2 text))))
    → IfSome found (λ first. (6 ≤ first.0) × (first.0 ≤ 8) × (first.0 % 2 ≡ 0)) × IfSome found (λ first. 3 + 2 * first.0 ≤ length text)
parts_within None text count some least most even within = (tt, tt)
parts_within (Some first) text count some least most even (is, within) =
    ((omega (arith, is, least), omega (arith, is, most), omega (arith, is, even)), omega (arith, some, within, ap length (take_rest text 2), length-drop 2 text))

-- no string where no < follows, or no white byte stands
pub not_spaced : {A : Type 0} (text : List ℕ) (found : Option A) → (get_or text 1 0 ≡ 60 → ⊥) → None ≡ (if (get_or text 1 0 == 60) && is_white (get_or text 0 0) then found else None)
not_spaced text found other = sym (cond-false _ _ _ (and_left _ _ (ne_eqb _ 60 other)))

pub not_blank : {A : Type 0} (text : List ℕ) (found : Option A) → is_white (get_or text 0 0) ≡ false → None ≡ (if (get_or text 1 0 == 60) && is_white (get_or text 0 0) then found else None)
not_blank text found other = sym (cond-false _ _ _ (and_right _ _ other))

nothing_then : {A B : Type 0} (x : Option A) → option_and_then {T = A} {U = B} (λ _. None) x ≡ None
nothing_then None = refl
nothing_then (Some x) = refl

pub closed_parts_short : (count : ℕ) (text : List ℕ) → length text < 8 → closed_parts count text ≡ None
closed_parts_short count text short =
    let past : get_or (drop 8 text) (2 * count) 0 ≡ 0 = get_or_past (drop 8 text) (2 * count) 0 (omega (arith, length-drop 8 text)) in
    let stays_open : closed_number (2 * count) (drop 8 text) ≡ None = rw past refl in
    rw stays_open (nothing_then (digits_value 16 (take 8 text)))

pub parts_none : (count : ℕ) (text : List ℕ) → None ≡ digits_value 16 (take 8 text) → None ≡ closed_parts count text
parts_none count text e = ap (option_and_then (λ high. option_map (λ low. (4 + count, high, low)) (closed_number (2 * count) (drop 8 text)))) e

-- no string of two bytes either
pub not_two_bytes : (text : List ℕ) → (get_or text 1 0 ≡ 60 → get_or text 6 0 ≡ 62 → is_white (get_or text 0 0) ≡ true → ⊥) → None ≡ spaced_two_bytes text
not_two_bytes text other = sym (cond-false _ _ _ (false_from_ne_true _ (λ all.
    let (ends, white) = and_parts ((get_or text 6 0 == 62) && (get_or text 1 0 == 60)) (is_white (get_or text 0 0)) all in
    let (last, first) = and_parts (get_or text 6 0 == 62) (get_or text 1 0 == 60) ends in
    other (eqb-true _ 60 first) (eqb-true _ 62 last) white)))

pub two_bytes_are : (text : List ℕ) → get_or text 1 0 ≡ 60 → get_or text 6 0 ≡ 62 → is_white (get_or text 0 0) ≡ true → spaced_two_bytes text ≡ digits_value 16 (take 4 (drop 2 text))
two_bytes_are text opens ends white = cond-true _ _ _ (and_from _ _ (and_from _ _ (eq-eqb _ _ ends) (eq-eqb _ _ opens)) white)
