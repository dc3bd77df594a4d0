-- The strings at the end of bytes are found: there is one way alone to cut them off.
use Rattle.std.proofs.Common.{◌≡◌, ◌∙◌, ◌<◌, inl, inr, true, false, ℕ, List, [], ◌∷◌, ◌++◌, codes, Option, Some, None, MatchOption, refl, sym, ap, subst, append_assoc, arith, ◌≤◌, ◌-◌, length, get_or}
use Rattle.std.specs.Char.{is_ascii_hexdigit}
use Rattle.std.specs.List.{count_by, list_all}
use Rattle.std.proofs.lemmas.List.{get_or_push, length_push, same_from_push}
use Rattle.cmap_tokens.specs.Ascii.{byte}
use Rattle.cmap_lint.specs.PartsRead.{AreBeforeDigits, AreBeforeEmpty, AreBlank, EndInEmptyString, EndInLongerCode, EndWith, IsEmptyString, IsHexString, IsTrimmed, bytes_of, is_blank, is_body, ends_or_escapes}
use Rattle.cmap_lint.proofs.LastBytes.{none_other, same_last, with_last}

-- ---- without blanks
-- the last byte that isn't blank stays
pub last_kept : (bytes rest before blanks : List ℕ) (b : ℕ) → IsTrimmed bytes rest → bytes ≡ before ++ b ∷ blanks → is_blank b ≡ false → AreBlank blanks → rest ≡ before ++ b ∷ []
last_kept bytes rest before blanks b trimmed is dark all = elim (with_last rest) [
  | inl none ↦ absurd (none_other is_blank trimmed.0 before blanks b trimmed.2 (ap (λ xs. xs ++ trimmed.0) (sym none) ∙ sym trimmed.1 ∙ is) dark)
  | inr some ↦
      let cut : some.0 ++ some.1 ∷ trimmed.0 ≡ before ++ b ∷ blanks = sym (append_assoc some.0 (some.1 ∷ []) trimmed.0) ∙ ap (λ xs. xs ++ trimmed.0) (sym some.2) ∙ sym trimmed.1 ∙ is in
      let same = same_last is_blank some.0 before trimmed.0 blanks some.1 b cut trimmed.2 all (trimmed.3 some.0 some.1 some.2) dark in
      some.2 ∙ (λ i. same.0 i ++ same.1 i ∷ [])
]

-- ---- empty strings
round_is : (front : List ℕ) → (front ++ byte "(" ∷ []) ++ byte ")" ∷ [] ≡ front ++ codes "()"
round_is front = append_assoc front (byte "(" ∷ []) (byte ")" ∷ [])

angle_is : (front blanks : List ℕ) → (front ++ byte "<" ∷ blanks) ++ byte ">" ∷ [] ≡ front ++ (byte "<" ∷ blanks ++ byte ">" ∷ [])
angle_is front blanks = append_assoc front (byte "<" ∷ blanks) (byte ">" ∷ [])

other_last : (xs ys : List ℕ) → xs ++ byte ")" ∷ [] ≡ ys ++ byte ">" ∷ [] → ⊥
other_last xs ys is = let clash : byte ")" ≡ byte ">" = (same_from_push xs ys _ _ is).1 in omega (arith, clash)

before_string : (bytes front string : List ℕ) → bytes ≡ front ++ string → IsEmptyString string → AreBeforeEmpty bytes front
before_string bytes front string is empty = elim empty [
  | inl round ↦ inl (is ∙ ap (λ xs. front ++ xs) round ∙ sym (round_is front))
  | inr angle ↦ inr (angle.0, is ∙ ap (λ xs. front ++ xs) angle.1 ∙ sym (angle_is front angle.0), angle.2)
]

string_of : (bytes front : List ℕ) → AreBeforeEmpty bytes front → (string : List ℕ) × (bytes ≡ front ++ string) × IsEmptyString string
string_of bytes front empty = elim empty [
  | inl round ↦ (codes "()", round ∙ round_is front, inl refl)
  | inr angle ↦ (byte "<" ∷ angle.0 ++ byte ">" ∷ [], angle.1 ∙ angle_is front angle.0, inr (angle.0, refl, angle.2))
]

one_before : (bytes front other : List ℕ) → AreBeforeEmpty bytes front → AreBeforeEmpty bytes other → front ≡ other
one_before bytes front other empty more = elim empty [
  | inl round ↦ elim more [
    | inl round-2 ↦ (same_from_push front other _ _ (same_from_push (front ++ byte "(" ∷ []) (other ++ byte "(" ∷ []) _ _ (sym round ∙ round-2)).0).0
    | inr angle-2 ↦ absurd (other_last _ _ (sym round ∙ angle-2.1))
  ]
  | inr angle ↦ elim more [
    | inl round-2 ↦ absurd (other_last _ _ (sym round-2 ∙ angle.1))
    | inr angle-2 ↦ (same_last is_blank front other angle.0 angle-2.0 (byte "<") (byte "<") (same_from_push (front ++ byte "<" ∷ angle.0) (other ++ byte "<" ∷ angle-2.0) _ _ (sym angle.1 ∙ angle-2.1)).0 angle.2 angle-2.2 refl refl).0
  ]
]

-- after a )
pub round_found : {X : Type 0} (found : Option X) (now : X → List ℕ) (bytes inner : List ℕ) → bytes ≡ inner ++ byte ")" ∷ []
    → MatchOption found (EndWith inner (byte "(") → ⊥) (λ x. inner ≡ now x ++ byte "(" ∷ [])
    → MatchOption found ((before : List ℕ) → AreBeforeEmpty bytes before → ⊥) (λ x. AreBeforeEmpty bytes (now x))
round_found None now bytes inner is none = λ before empty. elim empty [
  | inl round ↦ none (before, (same_from_push inner (before ++ byte "(" ∷ []) _ _ (sym is ∙ round)).0)
  | inr angle ↦ other_last _ _ (sym is ∙ angle.1)
]
round_found (Some x) now bytes inner is found = inl (is ∙ ap (λ xs. xs ++ byte ")" ∷ []) found)

-- after a >
pub angle_found : {X : Type 0} (found : Option X) (now : X → List ℕ) (bytes inner rest : List ℕ) → bytes ≡ inner ++ byte ">" ∷ [] → IsTrimmed inner rest
    → MatchOption found (EndWith rest (byte "<") → ⊥) (λ x. rest ≡ now x ++ byte "<" ∷ [])
    → MatchOption found ((before : List ℕ) → AreBeforeEmpty bytes before → ⊥) (λ x. AreBeforeEmpty bytes (now x))
angle_found None now bytes inner rest is trimmed none = λ before empty. elim empty [
  | inl round ↦ other_last _ _ (sym round ∙ is)
  | inr angle ↦ none (before, last_kept inner rest before angle.0 (byte "<") trimmed (same_from_push inner (before ++ byte "<" ∷ angle.0) _ _ (sym is ∙ angle.1)).0 refl angle.2)
]
angle_found (Some x) now bytes inner rest is trimmed found =
    inr (trimmed.0, is ∙ ap (λ xs. xs ++ byte ">" ∷ []) (trimmed.1 ∙ ap (λ xs. xs ++ trimmed.0) found ∙ append_assoc (now x) (byte "<" ∷ []) trimmed.0), trimmed.2)

-- after another byte
pub no_brackets : (bytes : List ℕ) → (EndWith bytes (byte ")") → ⊥) → (EndWith bytes (byte ">") → ⊥) → (before : List ℕ) → AreBeforeEmpty bytes before → ⊥
no_brackets bytes no_round no_angle before empty = elim empty [
  | inl round ↦ no_round (before ++ byte "(" ∷ [], round)
  | inr angle ↦ no_angle (before ++ byte "<" ∷ angle.0, angle.1)
]

pub no_empty : (bytes : List ℕ) → ((before : List ℕ) → AreBeforeEmpty bytes before → ⊥) → EndInEmptyString bytes → ⊥
no_empty bytes none end = none (end.0 ++ end.3 ∷ end.1) (before_string bytes _ end.2 end.4 end.8)

-- a byte before an empty string shows that another piece is on its line
abbrev pub LeadsOn : List ℕ → Type 0
LeadsOn rest = (before : List ℕ) × (b : ℕ) × (rest ≡ before ++ b ∷ []) × (ends_or_escapes b ≡ false)

pub empty_from : (bytes front rest : List ℕ) → AreBeforeEmpty bytes front → IsTrimmed front rest → LeadsOn rest → EndInEmptyString bytes
empty_from bytes front rest empty trimmed leads =
    let string = string_of bytes front empty in
    let cut : front ≡ leads.0 ++ leads.1 ∷ trimmed.0 = trimmed.1 ∙ ap (λ xs. xs ++ trimmed.0) leads.2 ∙ append_assoc leads.0 (leads.1 ∷ []) trimmed.0 in
    (leads.0, trimmed.0, string.0, leads.1, string.1 ∙ ap (λ xs. xs ++ string.0) cut, trimmed.3 leads.0 leads.1 leads.2, leads.3, trimmed.2, string.2)

pub leads_on : (bytes front rest : List ℕ) → AreBeforeEmpty bytes front → IsTrimmed front rest → EndInEmptyString bytes → LeadsOn rest
leads_on bytes front rest empty trimmed end =
    let is : front ≡ end.0 ++ end.3 ∷ end.1 = one_before bytes front _ empty (before_string bytes _ end.2 end.4 end.8) in
    (end.0, end.3, last_kept front rest end.0 end.1 end.3 trimmed is end.5 end.7, end.6)

-- ---- hexadecimal strings
pub no_angle : (bytes : List ℕ) → (EndWith bytes (byte ">") → ⊥) → (before : List ℕ) (digits : ℕ) → AreBeforeDigits bytes before digits → ⊥
no_angle bytes none before digits found = none (before ++ byte "<" ∷ found.0, found.1)

pub one_digits : (bytes front other : List ℕ) (m n : ℕ) → AreBeforeDigits bytes front m → AreBeforeDigits bytes other n → (front ≡ other) × (m ≡ n)
one_digits bytes front other m n found more =
    let same = same_last is_body front other found.0 more.0 (byte "<") (byte "<") (same_from_push (front ++ byte "<" ∷ found.0) (other ++ byte "<" ∷ more.0) _ _ (sym found.1 ∙ more.1)).0 found.2 more.2 refl refl in
    (same.0, found.3 ∙ ap (count_by is_ascii_hexdigit) same.2 ∙ sym more.3)

-- a byte of another kind comes last before the digits
pub other_byte : (bytes rest body before front : List ℕ) (b digits : ℕ) → bytes ≡ (rest ++ body) ++ byte ">" ∷ [] → rest ≡ before ++ b ∷ [] → list_all is_body body ≡ true → is_body b ≡ false → (b ≡ byte "<" → ⊥)
    → AreBeforeDigits bytes front digits → ⊥
other_byte bytes rest body before front b digits is last all other not found =
    let cut : before ++ b ∷ body ≡ front ++ byte "<" ∷ found.0 = sym (append_assoc before (b ∷ []) body) ∙ ap (λ xs. xs ++ body) (sym last) ∙ (same_from_push (rest ++ body) (front ++ byte "<" ∷ found.0) _ _ (sym is ∙ found.1)).0 in
    not (same_last is_body before front body found.0 b (byte "<") cut all found.2 other refl).1

-- the last byte of `rest`, by its index
pub other_end : (bytes rest body front : List ℕ) (digits : ℕ) → bytes ≡ (rest ++ body) ++ byte ">" ∷ [] → 1 ≤ length rest → list_all is_body body ≡ true
    → is_body (get_or rest (length rest - 1) 0) ≡ false → (get_or rest (length rest - 1) 0 ≡ byte "<" → ⊥) → AreBeforeDigits bytes front digits → ⊥
other_end bytes rest body front digits is some all other not found = elim (with_last rest) [
  | inl none ↦ let clash : length rest ≡ 0 = ap length none in omega (arith, clash, some)
  | inr last ↦
      let size : length last.0 ≡ length rest - 1 = let pushed = ap length last.2 ∙ length_push last.0 last.1 in omega (arith, pushed) in
      let b : get_or rest (length rest - 1) 0 ≡ last.1 = ap (λ xs. get_or xs (length rest - 1) 0) last.2 ∙ get_or_push last.0 last.1 0 (length rest - 1) size in
      other_byte bytes rest body last.0 front last.1 digits is last.2 all (ap is_body (sym b) ∙ other) (λ same. not (b ∙ same)) found
]

-- there are digits alone
pub only_body : (bytes body front : List ℕ) (digits : ℕ) → bytes ≡ body ++ byte ">" ∷ [] → list_all is_body body ≡ true → AreBeforeDigits bytes front digits → ⊥
only_body bytes body front digits is all found = none_other is_body body front found.0 (byte "<") all (same_from_push body (front ++ byte "<" ∷ found.0) _ _ (sym is ∙ found.1)).0 refl

pub string_begins : (bytes rest body before : List ℕ) (digits : ℕ) → bytes ≡ (rest ++ body) ++ byte ">" ∷ [] → rest ≡ before ++ byte "<" ∷ [] → list_all is_body body ≡ true → digits ≡ count_by is_ascii_hexdigit body
    → AreBeforeDigits bytes before digits
string_begins bytes rest body before digits is last all count =
    (body, is ∙ ap (λ xs. xs ++ byte ">" ∷ []) (ap (λ xs. xs ++ body) last ∙ append_assoc before (byte "<" ∷ []) body), all, count)

-- one more byte of the body
pub body_more : (bytes rest body before : List ℕ) (b : ℕ) → bytes ≡ (rest ++ body) ++ byte ">" ∷ [] → rest ≡ before ++ b ∷ [] → bytes ≡ (before ++ b ∷ body) ++ byte ">" ∷ []
body_more bytes rest body before b is last = is ∙ ap (λ xs. xs ++ byte ">" ∷ []) (ap (λ xs. xs ++ body) last ∙ append_assoc before (b ∷ []) body)

hex_from : (bytes front : List ℕ) (digits : ℕ) → AreBeforeDigits bytes front digits → (string : List ℕ) × (bytes ≡ front ++ string) × IsHexString string (bytes_of digits)
hex_from bytes front digits found =
    (byte "<" ∷ found.0 ++ byte ">" ∷ [], found.1 ∙ angle_is front found.0, (found.0, refl, found.2, ap bytes_of found.3))

hex_before : (bytes front string : List ℕ) (count : ℕ) → bytes ≡ front ++ string → (hex : IsHexString string count) → AreBeforeDigits bytes front (count_by is_ascii_hexdigit hex.0)
hex_before bytes front string count is hex = (hex.0, is ∙ ap (λ xs. front ++ xs) hex.1 ∙ sym (angle_is front hex.0), hex.2, refl)

-- ---- two of them
pub longer_from : (bytes front rest before : List ℕ) (m n : ℕ) → AreBeforeDigits bytes front n → IsTrimmed front rest → AreBeforeDigits rest before m
    → 0 < bytes_of m → bytes_of m < bytes_of n → (EndWith before (byte "<") → ⊥) → EndInLongerCode bytes
longer_from bytes front rest before m n high trimmed low some less single =
    let string = hex_from bytes front n high in
    let string-2 = hex_from rest before m low in
    (before, string-2.0, trimmed.0, string.0, bytes_of m, bytes_of n, string.1 ∙ ap (λ xs. xs ++ string.0) (trimmed.1 ∙ ap (λ xs. xs ++ trimmed.0) string-2.1), string-2.2, string.2, trimmed.2, some, less, single)

-- where the second one is cut off, and then the blanks, the first one is left
pub record Longer (rest : List ℕ) (n : ℕ) : Type 0 where
  pub before : List ℕ
  pub digits : ℕ
  pub low : AreBeforeDigits rest before digits
  pub some : 0 < bytes_of digits
  pub less : bytes_of digits < bytes_of n
  pub alone : EndWith before (byte "<") → ⊥

pub high_of : (bytes : List ℕ) → EndInLongerCode bytes → (front : List ℕ) × (digits : ℕ) × AreBeforeDigits bytes front digits
high_of bytes end = (_, _, hex_before bytes ((end.0 ++ end.1) ++ end.2) end.3 end.5 end.6 end.8)

pub longer_of : (bytes front rest : List ℕ) (n : ℕ) → AreBeforeDigits bytes front n → IsTrimmed front rest → EndInLongerCode bytes → Longer rest n
longer_of bytes front rest n high trimmed end =
    let low = end.7 in
    let found = hex_before bytes ((end.0 ++ end.1) ++ end.2) end.3 end.5 end.6 end.8 in
    let same = one_digits bytes front _ n _ high found in
    let ends : end.0 ++ end.1 ≡ (end.0 ++ byte "<" ∷ low.0) ++ byte ">" ∷ [] = ap (λ xs. end.0 ++ xs) low.1 ∙ sym (angle_is end.0 low.0) in
    let is : front ≡ (end.0 ++ byte "<" ∷ low.0) ++ byte ">" ∷ end.2 = same.0 ∙ ap (λ xs. xs ++ end.2) ends ∙ append_assoc (end.0 ++ byte "<" ∷ low.0) (byte ">" ∷ []) end.2 in
    let cut : rest ≡ (end.0 ++ byte "<" ∷ low.0) ++ byte ">" ∷ [] = last_kept front rest (end.0 ++ byte "<" ∷ low.0) end.2 (byte ">") trimmed is refl end.9 in
    record {
      before = end.0;
      digits = count_by is_ascii_hexdigit low.0;
      low = (low.0, cut, low.2, refl);
      some = subst (λ k. 0 < k) low.3 end.10;
      less = subst (λ k. k < bytes_of n) low.3 (subst (λ k. end.4 < k) (end.8.3 ∙ ap bytes_of (sym same.1)) end.11);
      alone = end.12;
    }
