-- The pieces of tokens: what the code reads is what the grammar says, both ways.
use Rattle.std.proofs.Common.{◌≡◌, ℕ, ◌+◌, ◌<◌, ◌≤◌, true, false, not, ◌||◌, ◌==◌, List, [], ◌∷◌, ◌++◌, length, get_or, take, drop, Option, Some, None, one-add, refl, sym, ap, ◌∙◌, subst, inl, inr, arith, append_assoc}
use Rattle.std.specs.Prelude.{◌⊎◌, IfSome, IsTrue, codes}
use Rattle.std.specs.List.{list_all, prefix_len}
use Rattle.std.proofs.lemmas.Bool.{cond-true, and_parts, or_left, both_ways, cases_Bool, false≢true, ne_eqb, not-true}
use Rattle.std.proofs.lemmas.List.{take_at}
use Rattle.std.proofs.lemmas.List.Folds.{length-prefix_len}
use Rattle.std.proofs.lemmas.List.Sums.{prefix_len-le-length}
use Rattle.cmap_tokens.specs.Bytes.{begins, is_white, is_regular}
use Rattle.cmap_tokens.specs.Tokens.{Token, Name, String, IsToken, IsString, is_bracket, begins_name, is_hex_body, name_or_number}
use Rattle.cmap_tokens.specs.TokenReading.{begins_with, string_len, string_of, gap_len, first_piece}
use Rattle.cmap_tokens.proofs.ByteTests.{by_byte, other_byte, one_of, begins_with_is, all_prefix, prefix_ends, prefix_stops}
use Rattle.cmap_tokens.proofs.StringLengths.{string_is, string_len-append}

bracket_special : (b : ℕ) → is_bracket b ≡ true → (is_regular b ≡ false) × (begins_name (b ∷ []) ≡ false)
bracket_special b bracket = (one_of is_regular b (codes "[]{}") refl bracket, one_of (λ c. is_regular c || c == 47) b (codes "[]{}") refl bracket)

-- what is read is a token, as long as can be
pub record IsFirst (text : List ℕ) (first : Token × ℕ) : Type 0 where
  pub within : first.1 ≤ length text
  pub is_token : IsToken (take first.1 text) first.0
  pub longest : IsTrue (begins_name (take first.1 text)) → begins is_regular (drop first.1 text) ≡ false

abbrev First : ℕ → List ℕ → Type 0
First b text = IfSome (first_piece (b ∷ text)) (IsFirst (b ∷ text))

-- a piece that is no name may have any byte after it
no_name : (text : List ℕ) (first : Token × ℕ) → first.1 ≤ length text → IsToken (take first.1 text) first.0 → begins_name (take first.1 text) ≡ false → IsFirst text first
no_name text first within is_token other = record { within = within; is_token = is_token; longest = λ h. absurd (both_ways _ other h) }

string_begins : (piece : List ℕ) → IsString piece → (begins_name piece ≡ false) × (0 < length piece)
string_begins piece (inl (body, shape, all)) = rw shape (refl, omega arith)
string_begins piece (inr (bytes, shape, closes)) = rw shape (refl, omega arith)

string_first : (text : List ℕ) (count : Option ℕ) → string_len text ≡ count → IfSome (string_of text count) (IsFirst text)
string_first text None e = tt
string_first text (Some n) e = let (string, within) = string_is text n e in no_name _ _ within (inr (inr (inr (string, refl)))) (string_begins _ string).0

less_is : (text : List ℕ) → First 60 text
unfolding first_piece
less_is text =
    elim (cases_Bool (begins_with 60 text)) [
      | inl again ↦
          let (rest, is) = begins_with_is 60 text again in
          subst (First 60) (sym is) (no_name _ _ (omega arith) (inr (inr (inl (inr (inl refl), refl)))) refl)
      | inr single ↦ rw single (string_first (60 ∷ text) _ refl)
    ]

greater_is : (text : List ℕ) → First 62 text
unfolding first_piece
greater_is text =
    elim (cases_Bool (begins_with 62 text)) [
      | inl again ↦
          let (rest, is) = begins_with_is 62 text again in
          subst (First 62) (sym is) (no_name _ _ (omega arith) (inr (inr (inl (inr (inr refl), refl)))) refl)
      | inr single ↦ rw single tt
    ]

name_is : (text : List ℕ) → First 47 text
unfolding first_piece
name_is text =
    rw (one-add (prefix_len is_regular text))
    (record {
      within = omega (arith, prefix_len-le-length is_regular text);
      is_token = inr (inl (take (prefix_len is_regular text) text, refl, all_prefix is_regular text, refl));
      longest = λ h. prefix_stops is_regular text;
    })

run_is : (b : ℕ) (text : List ℕ) → is_regular b ≡ true → First b text
unfolding first_piece
run_is b text regular =
    let n = prefix_len is_regular (b ∷ text) in
    let long : length (take n (b ∷ text)) ≡ n = length-prefix_len is_regular (b ∷ text) in
    let some : n ≡ 1 + prefix_len is_regular text = rw regular refl in
    let is : IsFirst (b ∷ text) (name_or_number (take n (b ∷ text)), n) = record {
      within = prefix_len-le-length is_regular (b ∷ text);
      is_token = inl ((omega (arith, long, some), all_prefix is_regular (b ∷ text)), refl);
      longest = λ h. prefix_stops is_regular (b ∷ text);
    } in
    rw regular (rw regular at is)

bracket_is : (b : ℕ) (text : List ℕ) → is_bracket b ≡ true → First b text
unfolding first_piece
bracket_is b text bracket =
    let (special, no_name_first) = bracket_special b bracket in
    rw (special, bracket) (no_name _ _ (omega arith) (inr (inr (inl (inl (b, refl, bracket), refl)))) no_name_first)

pub first_is : (text : List ℕ) → IfSome (first_piece text) (IsFirst text)
unfolding first_piece
first_is [] = tt
first_is (b ∷ text) =
    let P : ℕ → Type 0 = λ c. First c text in
    elim (cases_Bool (is_regular b)) [
      | inl regular ↦ run_is b text regular
      | inr special ↦
          elim (cases_Bool (is_bracket b)) [
            | inl bracket ↦ bracket_is b text bracket
            | inr not_bracket ↦
                by_byte b 47 P (name_is text) (λ not_slash. by_byte b 60 P (less_is text) (λ not_less.
                by_byte b 62 P (greater_is text) (λ not_greater. by_byte b 40 P (string_first (40 ∷ text) _ refl) (λ not_open.
                rw (special, not_bracket, not_slash, not_less, not_greater, not_open) tt))))
          ]
    ]

-- ---- what is read, by the first bytes of a text
pub slash_read : (text name : List ℕ) → get_or text 0 0 ≡ 47 → name ≡ drop 1 text → Some (Name true (take (prefix_len is_regular name) name), 1 + prefix_len is_regular name) ≡ first_piece text
unfolding first_piece
slash_read [] name is same = absurd (omega (arith, is))
slash_read (b ∷ text) name is same = rw (is, same) refl

pub run_read : (text : List ℕ) → is_regular (get_or text 0 0) ≡ true → Some (name_or_number (take (prefix_len is_regular text) text), prefix_len is_regular text) ≡ first_piece text
unfolding first_piece
run_read [] regular = absurd (false≢true regular)
run_read (b ∷ text) regular = sym (cond-true _ _ _ regular)

pub bracket_read : (text : List ℕ) → is_bracket (get_or text 0 0) ≡ true → Some (Name false (take 1 text), 1) ≡ first_piece text
unfolding first_piece
bracket_read [] bracket = cc
bracket_read (b ∷ text) bracket = rw ((bracket_special b bracket).0, bracket) refl

single_greater : (text : List ℕ) → (get_or text 0 0 ≡ 62 → ⊥) → None ≡ first_piece (62 ∷ text)
unfolding first_piece
single_greater [] single = refl
single_greater (b ∷ text) single = let other : (b == 62) ≡ false = ne_eqb b 62 single in rw other refl

pub nothing_read : (text : List ℕ) → length text < 1 → None ≡ first_piece text
unfolding first_piece
nothing_read [] none = refl
nothing_read (b ∷ text) none = absurd (omega (arith, none))

-- no piece begins so
pub none_read : (text : List ℕ) → is_regular (get_or text 0 0) ≡ false → is_bracket (get_or text 0 0) ≡ false → (get_or text 0 0 ≡ 47 → ⊥) → (get_or text 0 0 ≡ 60 → ⊥) → (get_or text 0 0 ≡ 40 → ⊥) → (get_or text 0 0 ≡ 62 → get_or text 1 0 ≡ 62 → ⊥) → None ≡ first_piece text
unfolding first_piece
none_read [] special not_bracket not_slash not_less not_open single = refl
none_read (b ∷ text) special not_bracket not_slash not_less not_open single =
    let P : ℕ → Type 0 = λ c. (c ≡ 62 → get_or text 0 0 ≡ 62 → ⊥) → is_regular c ≡ false → is_bracket c ≡ false → (c == 47) ≡ false → (c == 60) ≡ false → (c == 40) ≡ false → None ≡ first_piece (c ∷ text) in
    by_byte b 62 P (λ single _ _ _ _ _. single_greater text (single refl)) (λ not_greater _ special not_bracket not_slash not_less not_open. rw (special, not_bracket, not_slash, not_less, not_greater, not_open) refl) single
    special not_bracket (ne_eqb b 47 not_slash) (ne_eqb b 60 not_less) (ne_eqb b 40 not_open)

pub double_read : (text : List ℕ) (b : ℕ) → (b ≡ 60) ⊎ (b ≡ 62) → get_or text 0 0 ≡ b → get_or text 1 0 ≡ b → Some (Name false (take 2 text), 2) ≡ first_piece text
unfolding first_piece
double_read [] b is first second = elim is [ inl less ↦ absurd (omega (arith, first, less)) | inr greater ↦ absurd (omega (arith, first, greater)) ]
double_read (a ∷ []) b is first second = elim is [ inl less ↦ absurd (omega (arith, second, less)) | inr greater ↦ absurd (omega (arith, second, greater)) ]
double_read (a ∷ d ∷ text) b (inl less) first second = rw (first, second, less) refl
double_read (a ∷ d ∷ text) b (inr greater) first second = rw (first, second, greater) refl

pub string_read : (text : List ℕ) → ((get_or text 0 0 ≡ 60) × (get_or text 1 0 ≡ 60 → ⊥)) ⊎ (get_or text 0 0 ≡ 40) → string_of text (string_len text) ≡ first_piece text
unfolding first_piece
string_read [] (inl (less, single)) = absurd (omega (arith, less))
string_read [] (inr opens) = absurd (omega (arith, opens))
string_read (a ∷ []) (inl (less, single)) = rw less refl
string_read (a ∷ b ∷ text) (inl (less, single)) = let other : (b == 60) ≡ false = ne_eqb b 60 single in rw (less, other) refl
string_read (a ∷ text) (inr opens) = rw opens refl

-- the other way: a token is read, where what follows doesn't make it longer
pub record IsRead (piece : List ℕ) (token : Token) (rest : List ℕ) : Type 0 where
  pub first : first_piece (piece ++ rest) ≡ Some (token, length piece)
  pub no_gap : gap_len false (piece ++ rest) ≡ 0
  pub filled : 0 < length piece

read_run : (run rest : List ℕ) → 0 < length run → list_all is_regular run ≡ true → (IsTrue (begins_name run) → begins is_regular rest ≡ false) → IsRead run (name_or_number run) rest
unfolding first_piece
read_run [] rest some all longest = absurd (omega (arith, some))
read_run (b ∷ run) rest some all longest =
    let (first, more) = and_parts (is_regular b) (list_all is_regular run) all in
    let regular : is_regular b ≡ true = first in
    let long : prefix_len is_regular (b ∷ run ++ rest) ≡ length (b ∷ run) = prefix_ends is_regular (b ∷ run) rest all (longest (or_left (is_regular b) (b == 47) regular)) in
    record {
      first = cond-true _ _ _ regular ∙ ap (λ n. Some (name_or_number (take n (b ∷ run ++ rest)), n)) long ∙ ap (λ r. Some (name_or_number r, length (b ∷ run))) (take_at (b ∷ run) rest (length (b ∷ run)) refl);
      no_gap = (let not_percent = other_byte is_regular 37 b refl regular in let not_white = not-true (is_white b) (and_parts (not (is_white b)) _ regular).0 in rw (not_percent, not_white) refl);
      filled = some;
    }

read_name : (name rest : List ℕ) → list_all is_regular name ≡ true → begins is_regular rest ≡ false → IsRead (47 ∷ name) (Name true name) rest
unfolding first_piece
read_name name rest all stops = record {
  first = ap (λ n. Some (Name true (take n (name ++ rest)), 1 + n)) (prefix_ends is_regular name rest all stops) ∙ rw (take_at name rest (length name) refl, one-add (length name)) refl;
  no_gap = refl;
  filled = omega arith;
}

read_bracket : (b : ℕ) (rest : List ℕ) → is_bracket b ≡ true → IsRead (b ∷ []) (Name false (b ∷ [])) rest
unfolding first_piece
read_bracket b rest bracket = record { first = rw ((bracket_special b bracket).0, bracket) refl; no_gap = (let not_percent = other_byte is_bracket 37 b refl bracket in let not_white = one_of is_white b (codes "[]{}") refl bracket in rw (not_percent, not_white) refl); filled = omega arith }

-- no < stands after the < of a hexadecimal string
single : (body rest : List ℕ) → list_all is_hex_body body ≡ true → begins_with 60 (body ++ 62 ∷ rest) ≡ false
single [] rest all = refl
single (b ∷ body) rest all = other_byte is_hex_body 60 b refl (and_parts (is_hex_body b) (list_all is_hex_body body) all).0

string_piece : (piece rest : List ℕ) → IsString piece → (first_piece (piece ++ rest) ≡ string_of (piece ++ rest) (string_len (piece ++ rest))) × (gap_len false (piece ++ rest) ≡ 0)
unfolding first_piece
string_piece piece rest (inl (body, shape, all)) = rw (shape, append_assoc body (62 ∷ []) rest, single body rest all) (refl, refl)
string_piece piece rest (inr (bytes, shape, closes)) = rw shape (refl, refl)

read_string : (piece rest : List ℕ) → IsString piece → IsRead piece (String piece) rest
read_string piece rest is =
    let (first, no_gap) = string_piece piece rest is in
    record {
      first = first ∙ ap (string_of (piece ++ rest)) (string_len-append piece rest is) ∙ ap (λ p. Some (String p, length piece)) (take_at piece rest (length piece) refl);
      no_gap = no_gap;
      filled = (string_begins piece is).1;
    }

pub is_read : (piece : List ℕ) (token : Token) (rest : List ℕ) → IsToken piece token → (IsTrue (begins_name piece) → begins is_regular rest ≡ false) → IsRead piece token rest
unfolding first_piece
is_read piece token rest is longest =
    elim is [
      | inl (is_run, same) ↦ rw same (read_run piece rest is_run.0 is_run.1 longest)
      | inr (inl (name, shape, all, same)) ↦ rw (same, shape) (read_name name rest all (longest (rw shape refl)))
      | inr (inr (inl (inl (b, shape, is_one), same))) ↦ rw (same, shape) (read_bracket b rest is_one)
      | inr (inr (inl (inr (inl shape), same))) ↦ rw (same, shape) (record { first = refl; no_gap = refl; filled = omega arith })
      | inr (inr (inl (inr (inr shape), same))) ↦ rw (same, shape) (record { first = refl; no_gap = refl; filled = omega arith })
      | inr (inr (inr (string, same))) ↦ rw same (read_string piece rest string)
    ]
