-- Pieces that are no token: what the code measures of them byte by byte.
use Rattle.std.proofs.Common.{◌≡◌, ℕ, ◌+◌, ◌-◌, ◌<◌, ◌≤◌, Bool, true, false, List, [], ◌∷◌, ◌++◌, length, get_or, take, zero, suc, ap, refl, sym, ◌∙◌, arith, inl, inr}
use Rattle.std.specs.Prelude.{if◌then◌else◌}
use Rattle.std.specs.Char.{is_digit}
use Rattle.std.specs.List.{list_any}
use Rattle.std.proofs.lemmas.Bool.{cases_Bool, ne_eqb}
use Rattle.std.proofs.lemmas.List.{take_more}
use Rattle.cmap_tokens.specs.Bytes.{begins}
use Rattle.cmap_tokens.specs.Malformed.{blank_after, ends_line, is_line_blank, last_digits, hex_left}

-- ---- the first byte
pub begins_first : (p : ℕ → Bool) (text : List ℕ) → 1 ≤ length text → begins p text ≡ p (get_or text 0 0)
begins_first p [] some = absurd (omega (arith, some))
begins_first p (b ∷ text) some = refl

pub begins_none : (p : ℕ → Bool) (text : List ℕ) → length text < 1 → begins p text ≡ false
begins_none p [] none = refl
begins_none p (b ∷ text) none = absurd (omega (arith, none))

-- ---- digits at the end
digits_append : (count : ℕ) (text : List ℕ) (b : ℕ) → last_digits count (text ++ b ∷ []) ≡ (if is_digit b 16 then last_digits count text + 1 else 0)
digits_append count [] b = refl
digits_append count (a ∷ text) b = digits_append (if is_digit a 16 then count + 1 else 0) text b

pub digit_more : (text : List ℕ) (i count : ℕ) → i < length text → is_digit (get_or text i 0) 16 ≡ true → count ≡ last_digits 0 (take i text) → count + 1 ≡ last_digits 0 (take (i + 1) text)
digit_more text i count within digit same = rw (take_more text i 0 within, digits_append 0 (take i text) (get_or text i 0), digit) (ap (λ n. n + 1) same)

pub no_digit : (text : List ℕ) (i : ℕ) → i < length text → is_digit (get_or text i 0) 16 ≡ false → 0 ≡ last_digits 0 (take (i + 1) text)
no_digit text i within other = rw (take_more text i 0 within, digits_append 0 (take i text) (get_or text i 0), other) refl

-- ---- a line end among the bytes
any_append : (p : ℕ → Bool) (text : List ℕ) (b : ℕ) → list_any p text ≡ false → list_any p (text ++ b ∷ []) ≡ p b
any_append p [] b none = elim (cases_Bool (p b)) [ inl is ↦ rw is refl | inr not ↦ rw not refl ]
any_append p (a ∷ text) b none = elim (cases_Bool (p a)) [
  | inl is ↦ let clash = rw is at none in cc
  | inr not ↦ rw not (any_append p text b (rw not at none))
]

pub none_more : (p : ℕ → Bool) (text : List ℕ) (i : ℕ) → i < length text → p (get_or text i 0) ≡ false → list_any p (take i text) ≡ false → list_any p (take (i + 1) text) ≡ false
none_more p text i within fails none = rw (take_more text i 0 within) (any_append p (take i text) (get_or text i 0) none ∙ fails)

any_anywhere : (p : ℕ → Bool) (front rest : List ℕ) (b : ℕ) → p b ≡ true → list_any p (front ++ b ∷ rest) ≡ true
any_anywhere p [] rest b is = rw is refl
any_anywhere p (a ∷ front) rest b is = elim (cases_Bool (p a)) [ inl here ↦ rw here refl | inr not ↦ rw not (any_anywhere p front rest b is) ]

pub any_here : (p : ℕ → Bool) (text : List ℕ) (i : ℕ) → i < length text → p (get_or text i 0) ≡ true → list_any p text ≡ true
any_here p [] i within is = absurd (omega (arith, within))
any_here p (b ∷ text) zero within is = rw is refl
any_here p (b ∷ text) (suc i) within is = elim (cases_Bool (p b)) [ inl here ↦ rw here refl | inr not ↦ rw not (any_here p text i (omega (arith, within)) is) ]

-- ---- blanks before
blank_append : (blank : Bool) (text : List ℕ) (b : ℕ) → blank_after blank (text ++ b ∷ []) ≡ (if is_line_blank b then blank_after blank text else ends_line b)
blank_append blank [] b = refl
blank_append blank (a ∷ text) b = blank_append (if is_line_blank a then blank else ends_line a) text b

-- the last byte of the first i
last_of : (text : List ℕ) (i : ℕ) → 0 < i → i ≤ length text → take i text ≡ take (i - 1) text ++ get_or text (i - 1) 0 ∷ []
last_of text i some within = let same : i ≡ i - 1 + 1 = omega (arith, some) in ap (λ n. take n text) same ∙ take_more text (i - 1) 0 (omega (arith, some, within))

pub blank_less : (text : List ℕ) (i : ℕ) → 0 < i → i ≤ length text → is_line_blank (get_or text (i - 1) 0) ≡ true → blank_after true (take i text) ≡ blank_after true text → blank_after true (take (i - 1) text) ≡ blank_after true text
blank_less text i some within blank so_far = sym (ap (blank_after true) (last_of text i some within) ∙ blank_append true (take (i - 1) text) (get_or text (i - 1) 0) ∙ rw blank refl) ∙ so_far

pub not_blank : (text : List ℕ) (i : ℕ) → 0 < i → i ≤ length text → is_line_blank (get_or text (i - 1) 0) ≡ false → blank_after true (take i text) ≡ blank_after true text → ends_line (get_or text (i - 1) 0) ≡ blank_after true text
not_blank text i some within other so_far = sym (ap (blank_after true) (last_of text i some within) ∙ blank_append true (take (i - 1) text) (get_or text (i - 1) 0) ∙ rw other refl) ∙ so_far

-- ---- the rest of a hexadecimal string
pub left_at_line : (b : ℕ) (text : List ℕ) → (b ≡ 62 → ⊥) → (b ≡ 60 → ⊥) → ends_line b ≡ true → hex_left (b ∷ text) ≡ 0
left_at_line b text not_greater not_less ends = rw (ne_eqb b 62 not_greater, ne_eqb b 60 not_less, ends) refl

pub left_more : (b : ℕ) (text : List ℕ) → (b ≡ 62 → ⊥) → (b ≡ 60 → ⊥) → ends_line b ≡ false → hex_left (b ∷ text) ≡ 1 + hex_left text
left_more b text not_greater not_less other = rw (ne_eqb b 62 not_greater, ne_eqb b 60 not_less, other) refl
