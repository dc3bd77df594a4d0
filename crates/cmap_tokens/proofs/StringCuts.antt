-- The body of ( .. ), cut into its parts: what reading it part by part gives is what they stand for, both ways.
use Rattle.std.proofs.Common.{◌≡◌, ℕ, ◌+◌, ◌%◌, ◌<◌, ◌≤◌, Bool, true, false, ◌==◌, List, [], ◌∷◌, ◌++◌, ◌⊎◌, length, take, drop, zero, suc, one-add, refl, sym, ap, ◌∙◌, subst, inl, inr, arith, length-append}
use Rattle.std.specs.Option.{option_to_list}
use Rattle.std.specs.List.{list_all, prefix_len}
use Rattle.std.specs.Char.{is_digit}
use Rattle.std.proofs.lemmas.Bool.{and_parts, and_from, or_from, or_parts, cases_Bool, cases_lt, false≢true, lt-ltb}
use Rattle.std.proofs.lemmas.Bool.Decides.{nat_tests}
use Rattle.std.proofs.lemmas.List.{take_at, drop_at, take-append-drop, length-take}
use Rattle.std.proofs.lemmas.List.Sums.{prefix_len-le-length}
use Rattle.cmap_tokens.specs.Numbers.{are_digits, digits_number}
use Rattle.cmap_tokens.specs.Bytes.{begins}
use Rattle.cmap_tokens.specs.Strings.{escape_value, IsLineEnd, is_line_byte, IsPart, plain, line_end, escaped, octal, continued, IsCut}
use Rattle.cmap_tokens.specs.TokenReading as reading
use Rattle.cmap_tokens.specs.TokenReading.{begins_with, octal_len, first_part, parts_value, is_paired}
use Rattle.cmap_tokens.proofs.ByteTests.{all_front, by_byte, other_byte, begins_with_is, prefix_len-append_all, prefix_none, prefix_stops}

-- a part is read as it is, with its backslashes whole
abbrev Reads : List ℕ → List ℕ → List ℕ → Type 0
Reads part value next =
    ((first_part (part ++ next)).1 ≡ length part) × (option_to_list (first_part (part ++ next)).0 ≡ value) × (is_paired false (part ++ next) ≡ is_paired false next) × (0 < length part)

by_line_end : (P : List ℕ → List ℕ → Type 0) → ((next : List ℕ) → P (13 ∷ 10 ∷ []) next) → ((next : List ℕ) → P (10 ∷ []) next) → ((next : List ℕ) → begins_with 10 next ≡ false → P (13 ∷ []) next)
    → (text next : List ℕ) → IsLineEnd text next → P text next
by_line_end P both feed return text next (inl is) = subst (λ t. P t next) (sym is) (both next)
by_line_end P both feed return text next (inr (inl is)) = subst (λ t. P t next) (sym is) (feed next)
by_line_end P both feed return text next (inr (inr (is, other))) = subst (λ t. P t next) (sym is) (return next other)

digits_paired : (digits next : List ℕ) → list_all (λ c. is_digit c 8) digits ≡ true → is_paired false (digits ++ next) ≡ is_paired false next
digits_paired [] next all = refl
digits_paired (c ∷ digits) next all = grind (arith, nat_tests, all, other_byte (λ k. is_digit k 8) 92 c, digits_paired digits next)

read_octal : (digits next : List ℕ) → are_digits 8 digits ≡ true → length digits ≤ 3 → (length digits ≡ 3) ⊎ (begins (λ b. is_digit b 8) next ≡ false) → Reads (92 ∷ digits) (digits_number 8 digits % 256 ∷ []) next
unfolding first_part reading.escape
read_octal [] next are few ends = absurd (false≢true are)
read_octal (c ∷ digits) next are few ends =
    let p : ℕ → Bool = λ k. is_digit k 8 in
    let all : list_all p (c ∷ digits) ≡ true = (and_parts _ _ are).1 in
    let (first, more) = and_parts (is_digit c 8) _ all in
    let digit : is_digit c 8 ≡ true = first in
    let not_return : (c == 13) ≡ false = other_byte p 13 c refl first in
    let not_feed : (c == 10) ≡ false = other_byte p 10 c refl first in
    let whole = prefix_len-append_all p (c ∷ digits) next all in
    let len : octal_len (c ∷ digits ++ next) ≡ length (c ∷ digits) = elim ends [
      | inl three ↦ omega (arith, whole, three)
      | inr none ↦ omega (arith, whole, few, prefix_none p next none)
    ] in
    rw (len, take_at digits next (length digits) refl, not_return, not_feed, digit) (one-add _, refl, digits_paired digits next more, omega arith)

part_read : (part value next : List ℕ) → IsPart part value next → Reads part value next
unfolding first_part reading.escape
part_read _ _ _ (plain b next is) =
    let (not_escape, line) = or_parts (b == 92) (is_line_byte b) is in
    rw (not_escape, (or_parts (b == 10) (b == 13) line).1) (refl, refl, ap (λ t. is_paired t next) not_escape, omega arith)
part_read _ _ _ (line_end text next is) =
    by_line_end (λ text next. Reads text (10 ∷ []) next) (λ next. (refl, refl, refl, omega arith)) (λ next. (refl, refl, refl, omega arith)) (λ next other. rw other (refl, refl, refl, omega arith)) text next is
part_read _ _ _ (escaped c next is) =
    let (digit, line) = or_parts (is_digit c 8) (is_line_byte c) is in
    let (feed, return) = or_parts (c == 10) (c == 13) line in
    rw (return, feed, digit) (refl, refl, refl, omega arith)
part_read _ _ _ (octal digits next are few ends) = read_octal digits next are few ends
part_read _ _ _ (continued text next is) =
    by_line_end (λ text next. Reads (92 ∷ text) [] next) (λ next. (refl, refl, refl, omega arith)) (λ next. (refl, refl, refl, omega arith)) (λ next other. rw other (refl, refl, refl, omega arith)) text next is

nothing_read : (n : ℕ) → parts_value n [] ≡ []
unfolding first_part
nothing_read zero = refl
nothing_read (suc n) = nothing_read n

-- one part more is read, and fewer bytes are left
part_more : (part value next body : List ℕ) (n : ℕ) → IsPart part value next → body ≡ part ++ next → parts_value (suc n) body ≡ value ++ parts_value n next
part_more part value next body n is whole =
    let (measured, read, paired, filled) = part_read part value next is in
    rw (whole, read, measured, drop_at part next (length part) refl) refl

part_shorter : (part value next body : List ℕ) → IsPart part value next → body ≡ part ++ next → length next < length body
part_shorter part value next body is whole = omega (arith, (part_read part value next is).3, ap length whole, length-append part next)

-- what the parts stand for is read
pub cut_read : (parts : List (List ℕ × List ℕ)) (body value : List ℕ) (n : ℕ) → IsCut parts body value → length body ≤ n → value ≡ parts_value n body
cut_read [] body value n (none, nothing) few = nothing ∙ sym (nothing_read n) ∙ ap (parts_value n) (sym none)
cut_read (part ∷ parts) body value zero (next, more, whole, value_is, is, cut) few = absurd (omega (arith, few, part_shorter part.0 part.1 next body is whole))
cut_read (part ∷ parts) body value (suc n) (next, more, whole, value_is, is, cut) few =
    value_is ∙ ap (λ m. part.1 ++ m) (cut_read parts next more n cut (omega (arith, few, part_shorter part.0 part.1 next body is whole))) ∙ sym (part_more part.0 part.1 next body n is whole)

-- ---- what is read is a part
abbrev Found : List ℕ → Type 0
Found body = (part value rest : List ℕ) × (body ≡ part ++ rest) × IsPart part value rest

found_return : (text : List ℕ) → (rest next : List ℕ) × (13 ∷ text ≡ rest ++ next) × IsLineEnd rest next
found_return text =
    elim (cases_Bool (begins_with 10 text)) [
      | inl feed ↦ let (rest, is) = begins_with_is 10 text feed in (13 ∷ 10 ∷ [], rest, ap (λ t. 13 ∷ t) is, inl refl)
      | inr other ↦ (13 ∷ [], text, refl, inr (inr (refl, other)))
    ]

-- three digits, or fewer where no further one follows
found_octal : (c : ℕ) (text : List ℕ) → is_digit c 8 ≡ true → Found (92 ∷ c ∷ text)
found_octal c text digit =
    let p : ℕ → Bool = λ k. is_digit k 8 in
    let body = c ∷ text in
    let len = octal_len body in
    let some : prefix_len p body ≡ 1 + prefix_len p text = rw digit refl in
    let long : length (take len body) ≡ len = omega (arith, prefix_len-le-length p body, length-take len body) in
    let are : are_digits 8 (take len body) ≡ true = and_from _ _ (lt-ltb 0 _ (omega (arith, long, some))) (all_front p len body (omega arith)) in
    let ends : (length (take len body) ≡ 3) ⊎ (begins (λ b. is_digit b 8) (drop len body) ≡ false) = elim (cases_lt (prefix_len p body) 3) [
      | inl fewer ↦ let all : len ≡ prefix_len p body = omega (arith, fewer) in inr (ap (λ n. begins (λ b. is_digit b 8) (drop n body)) all ∙ prefix_stops p body)
      | inr three ↦ inl (omega (arith, long, three))
    ] in
    (92 ∷ take len body, _, drop len body, ap (λ t. 92 ∷ t) (sym (take-append-drop len body)), octal (take len body) (drop len body) are (omega (arith, long)) ends)

found_escape : (text : List ℕ) → is_paired true text ≡ true → Found (92 ∷ text)
found_escape [] paired = absurd (false≢true paired)
found_escape (c ∷ text) paired =
    let P : ℕ → Type 0 = λ k. Found (92 ∷ k ∷ text) in
    by_byte c 13 P (let (part, rest, whole, is) = found_return text in (92 ∷ part, [], rest, ap (λ t. 92 ∷ t) whole, continued part rest is)) (λ not_return.
    by_byte c 10 P (92 ∷ 10 ∷ [], [], text, refl, continued (10 ∷ []) text (inr (inl refl))) (λ not_feed.
    elim (cases_Bool (is_digit c 8)) [
      | inl digit ↦ found_octal c text digit
      | inr not_digit ↦ (92 ∷ c ∷ [], escape_value c ∷ [], text, refl, escaped c text (or_from _ _ not_digit (or_from _ _ not_feed not_return)))
    ]))

found : (b : ℕ) (text : List ℕ) → is_paired false (b ∷ text) ≡ true → Found (b ∷ text)
found b text =
    let P : ℕ → Type 0 = λ c. is_paired false (c ∷ text) ≡ true → Found (c ∷ text) in
    by_byte b 92 P (found_escape text) (λ not_backslash.
    by_byte b 13 P (λ _. let (part, rest, whole, is) = found_return text in (part, 10 ∷ [], rest, whole, line_end part rest is)) (λ not_return.
    by_byte b 10 P (λ _. (10 ∷ [], 10 ∷ [], text, refl, line_end (10 ∷ []) text (inr (inl refl)))) (λ not_feed _.
    (b ∷ [], b ∷ [], text, refl, plain b text (or_from _ _ not_backslash (or_from _ _ not_feed not_return))))))

-- and a body whose backslashes are whole has parts, which stand for what is read
pub has_cut : (n : ℕ) (body : List ℕ) → length body ≤ n → is_paired false body ≡ true → (parts : List (List ℕ × List ℕ)) × IsCut parts body (parts_value n body)
has_cut n [] few paired = ([], (refl, nothing_read n))
has_cut zero (b ∷ text) few paired = absurd (omega (arith, few))
has_cut (suc n) (b ∷ text) few paired =
    let (part, value, rest, whole, is) = found b text paired in
    let (parts, cut) = has_cut n rest (omega (arith, few, part_shorter part value rest (b ∷ text) is whole)) (sym (part_read part value rest is).2 ∙ ap (is_paired false) (sym whole) ∙ paired) in
    ((part, value) ∷ parts, (rest, parts_value n rest, whole, part_more part value rest (b ∷ text) n is whole, is, cut))
