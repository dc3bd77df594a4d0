-- How far strings reach: what the code measures is what the grammar says, both ways.
use Rattle.std.proofs.Common.{◌≡◌, ℕ, ◌+◌, ◌-◌, ◌<◌, ◌≤◌, Bool, true, false, ◌==◌, List, [], ◌∷◌, ◌++◌, length, get_or, take, drop, suc, Option, Some, None, one-add, refl, sym, ap, ◌∙◌, inl, inr, arith, append_assoc, append-nil, length-append}
use Rattle.std.specs.Prelude.{IsTrue, option_map}
use Rattle.std.specs.List.{list_all, prefix_len}
use Rattle.std.specs.Option.{option_map_or}
use Rattle.std.proofs.Math.Seq.{get_or-append_seam}
use Rattle.std.proofs.lemmas.Bool.{cases_Bool, eq-eqb, eqb-true}
use Rattle.std.proofs.lemmas.List.{at_drop_all, at_drop_more, nil_from_length, take_all, take_more}
use Rattle.cmap_tokens.specs.Tokens.{Inside, after_byte, closes_at_end, is_hex_body, IsHexString, IsString}
use Rattle.cmap_tokens.specs.TokenReading.{one_more, hex_len, text_len, string_len, is_string, is_paired, opened}
use Rattle.cmap_tokens.proofs.ByteTests.{all_prefix, by_byte, byte_within, prefix_len-append_all}

one_more_some : (count : Option ℕ) (m : ℕ) → one_more count ≡ Some m → (k : ℕ) × (count ≡ Some k) × (m ≡ suc k)
one_more_some None m e = cc
one_more_some (Some k) m e = (k, refl, let next = one-add k in cc)

-- ---- < digits >
hex_is : (text : List ℕ) (n : ℕ) → hex_len text ≡ Some n → IsHexString (60 ∷ take n text) × (n ≤ length text)
hex_is text n e =
    let len = prefix_len is_hex_body text in
    elim (cases_Bool (get_or text len 0 == 62)) [
      | inl ends ↦
          let last : get_or text len 0 ≡ 62 = eqb-true _ 62 ends in
          let at : 1 + len ≡ n = let some = rw ends at e in cc in
          let long : n ≡ len + 1 = omega (arith, at) in
          let within : len < length text = byte_within text len 62 last (omega arith) in
          ((take len text, rw (long, take_more text len 0 within, last) refl, all_prefix is_hex_body text), omega (arith, long, within))
      | inr other ↦ let at = rw other at e in cc
    ]

hex_len-append : (body rest : List ℕ) → IsTrue (list_all is_hex_body body) → hex_len (body ++ 62 ∷ rest) ≡ Some (1 + length body)
hex_len-append body rest is_body =
    let len : prefix_len is_hex_body (body ++ 62 ∷ rest) ≡ length body = omega (arith, prefix_len-append_all is_hex_body body (62 ∷ rest) is_body) in
    rw (len, get_or-append_seam body 62 rest 0) refl

-- ---- ( .. )
text_is : (state : Option Inside) (text : List ℕ) (n : ℕ) → text_len state text ≡ Some n → (closes_at_end state (take n text) ≡ true) × (n ≤ length text)
text_is None text n e = let none : n ≡ 0 = cc in (rw none refl, omega (arith, none))
text_is (Some state) [] n e = cc
text_is (Some state) (b ∷ text) n e =
    let (k, less, more) = one_more_some (text_len (after_byte state b) text) n e in
    let (closes, within) = text_is (after_byte state b) text k less in
    (rw more closes, omega (arith, more, within))

text_len-append : (state : Option Inside) (bytes rest : List ℕ) → closes_at_end state bytes ≡ true → text_len state (bytes ++ rest) ≡ Some (length bytes)
text_len-append None bytes rest closes = ap Some (sym (eqb-true (length bytes) 0 closes))
text_len-append (Some state) [] rest closes = cc
text_len-append (Some state) (b ∷ bytes) rest closes = ap one_more (text_len-append (after_byte state b) bytes rest closes) ∙ ap Some (one-add (length bytes))

-- ---- strings
-- what is measured is a string
pub string_is : (text : List ℕ) (n : ℕ) → string_len text ≡ Some n → IsString (take n text) × (n ≤ length text)
string_is [] n = λ e. cc
string_is (b ∷ text) n =
    let P : ℕ → Type 0 = λ c. string_len (c ∷ text) ≡ Some n → IsString (take n (c ∷ text)) × (n ≤ length (c ∷ text)) in
    by_byte b 60 P (λ e. let (k, is, more) = one_more_some (hex_len text) n e in let (hex, within) = hex_is text k is in (rw more (inl hex), omega (arith, more, within))) (λ not_less.
    by_byte b 40 P (λ e. let (k, is, more) = one_more_some (text_len opened text) n e in let (closes, within) = text_is opened text k is in (rw more (inr (take k text, refl, closes)), omega (arith, more, within))) (λ not_open e.
    let at = rw (not_less, not_open) at e in cc))

-- and a string is measured
pub string_len-append : (piece rest : List ℕ) → IsString piece → string_len (piece ++ rest) ≡ Some (length piece)
string_len-append piece rest (inl (body, shape, all)) =
    let long : 1 + (1 + length body) ≡ length (60 ∷ body ++ 62 ∷ []) = omega (arith, length-append body (62 ∷ [])) in
    rw (shape, append_assoc body (62 ∷ []) rest) (ap one_more (hex_len-append body rest all) ∙ ap Some long)
string_len-append piece rest (inr (bytes, shape, closes)) = rw shape (ap one_more (text_len-append opened bytes rest closes) ∙ ap Some (one-add (length bytes)))

pub is_string-from : (piece : List ℕ) → IsString piece → is_string piece ≡ true
unfolding is_string
is_string-from piece is = rw (sym (ap string_len (append-nil piece)) ∙ string_len-append piece [] is) (eq-eqb (length piece) (length piece) refl)

string_by_len : (piece : List ℕ) (count : Option ℕ) → string_len piece ≡ count → option_map_or (λ n. n == length piece) count false ≡ true → IsString piece
string_by_len piece None e is = cc
string_by_len piece (Some n) e is =
    let whole : n ≡ length piece = eqb-true n (length piece) is in
    rw (← take_all n piece (omega (arith, whole))) (string_is piece n e).0

pub IsString-from : (piece : List ℕ) → is_string piece ≡ true → IsString piece
unfolding is_string
IsString-from piece is = string_by_len piece _ refl is

-- what is measured is a whole string
pub front_is_string : (text : List ℕ) (n : ℕ) → Some n ≡ string_len text → is_string (take n text) ≡ true
front_is_string text n e = is_string-from (take n text) (string_is text n (sym e)).0

-- a step over one byte
one_more_from : (i : ℕ) (count : Option ℕ) → option_map (λ n. i + n) (one_more count) ≡ option_map (λ n. i + 1 + n) count
one_more_from i None = refl
one_more_from i (Some n) = let e : i + (1 + n) ≡ i + 1 + n = omega arith in ap Some e

pub count_step : (f : List ℕ → Option ℕ) (text : List ℕ) (i : ℕ) (rest : Option ℕ) → i < length text → f (get_or text i 0 ∷ drop (i + 1) text) ≡ one_more rest
    → option_map (λ n. i + 1 + n) rest ≡ option_map (λ n. i + n) (f (drop i text))
count_step f text i rest within is = sym (ap (option_map (λ n. i + n)) (at_drop_more f text i 0 within ∙ is) ∙ one_more_from i rest)

-- what closes ends with ), and each backslash before it has a byte after it
abbrev pub EndsPaired : Bool → List ℕ → Type 0
EndsPaired escaped bytes = (body : List ℕ) × (bytes ≡ body ++ 41 ∷ []) × (is_paired escaped body ≡ true)

byte_before : (b : ℕ) (escaped next : Bool) (bytes : List ℕ) → ((body : List ℕ) → is_paired escaped (b ∷ body) ≡ is_paired next body) → EndsPaired next bytes → EndsPaired escaped (b ∷ bytes)
byte_before b escaped next bytes same (body, whole, paired) = (b ∷ body, ap (λ t. b ∷ t) whole, same body ∙ paired)

pub ends_from : (escaped : Bool) (depth : ℕ) (bytes : List ℕ) → closes_at_end (Some (record { escaped = escaped; depth = depth })) bytes ≡ true → EndsPaired escaped bytes
ends_from escaped depth [] = λ closes. cc
ends_from true depth (b ∷ bytes) = λ closes. byte_before b true false bytes (λ _. refl) (ends_from false depth bytes closes)
ends_from false depth (b ∷ bytes) =
    let P : ℕ → Type 0 = λ c. closes_at_end (Some (record { escaped = false; depth = depth })) (c ∷ bytes) ≡ true → EndsPaired false (c ∷ bytes) in
    by_byte b 92 P (λ closes. byte_before 92 false true bytes (λ _. refl) (ends_from true depth bytes closes)) (λ plain.
    by_byte b 41 P (elim (cases_Bool (depth == 1)) [
      | inl last ↦ λ closes. ([], ap (λ t. 41 ∷ t) (nil_from_length bytes (eqb-true (length bytes) 0 (rw (last, closes_at_end) at closes))), refl)
      | inr deeper ↦ λ closes. byte_before 41 false false bytes (λ _. refl) (ends_from false (depth - 1) bytes (rw (deeper, closes_at_end) at closes))
    ]) (λ not_close.
    by_byte b 40 P (λ closes. byte_before 40 false false bytes (λ _. refl) (ends_from false (depth + 1) bytes closes)) (λ not_open closes.
    byte_before b false false bytes (λ body. ap (λ t. is_paired t body) plain) (ends_from false depth bytes (rw (plain, not_open, not_close, closes_at_end) at closes)))))

-- the ) that closes the first parenthesis
pub closed_here : (text : List ℕ) (i depth : ℕ) (escaped : Bool) (all : Option ℕ) → i < length text → get_or text i 0 ≡ 41 → depth ≡ 1 → escaped ≡ false
    → option_map (λ n. i + n) (text_len (Some (record { escaped = escaped; depth = depth })) (drop i text)) ≡ all → Some (i + 2) ≡ one_more all
closed_here text i depth escaped all within is one plain so_far =
    let state : Inside = record { escaped = escaped; depth = depth } in
    let end : text_len (Some state) (drop i text) ≡ Some 1 = at_drop_more (text_len (Some state)) text i 0 within ∙ rw (is, one, plain) refl in
    let sum : i + 2 ≡ 1 + (i + 1) = omega arith in
    ap Some sum ∙ ap (λ n. one_more (option_map (λ n. i + n) n)) (sym end) ∙ ap one_more so_far

-- and none
pub never_closed : (text : List ℕ) (i : ℕ) (state : Inside) (all : Option ℕ) → length text ≤ i → option_map (λ n. i + n) (text_len (Some state) (drop i text)) ≡ all → None ≡ one_more all
never_closed text i state all past so_far = ap (λ n. one_more (option_map (λ n. i + n) n)) (sym (at_drop_all (text_len (Some state)) text i past)) ∙ ap one_more so_far
