-- Gaps, and the function that measures them.
use Rattle.std.proofs.Common.{◌≡◌, ℕ, ◌+◌, ◌-◌, ◌<◌, ◌≤◌, Bool, true, false, not, ◌==◌, List, [], ◌∷◌, ◌++◌, inl, inr, length, get_or, take, Option, Some, None, one-add, refl, sym, ap, ◌∙◌, arith, append-nil, drop, length-drop, length-take-le}
use Rattle.std.specs.Prelude.{IsTrue, is_some}
use Rattle.std.proofs.lemmas.Bool.{and_parts, cases_Bool, eq-eqb, ltb-true, ne_eqb, or_from}
use Rattle.std.proofs.lemmas.List.{drop_more, drop-drop, take-append-drop, take_rest}
use Rattle.std.specs.List.{list_all}
use Rattle.cmap_tokens.specs.Bytes.{is_white}
use Rattle.cmap_tokens.specs.Gaps.{ends_comment, comment_after, IsBlank}
use Rattle.cmap_tokens.specs.TokenReading.{gap_len, is_plain}
use Rattle.cmap_tokens.proofs.ByteTests.{other_byte}

pub gap_len-append : (in_comment after : Bool) (gap text : List ℕ) → comment_after in_comment gap ≡ Some after → gap_len in_comment (gap ++ text) ≡ length gap + gap_len after text
gap_len-append in_comment after [] text e = let same : in_comment ≡ after = cc in rw same (omega arith)
gap_len-append true after (b ∷ gap) text e = omega (arith, gap_len-append (not (ends_comment b)) after gap text e)
gap_len-append false after (b ∷ gap) text e =
    elim (cases_Bool (b == 37)) [
      | inl percent ↦ let more = rw percent at e in rw percent (omega (arith, gap_len-append true after gap text more))
      | inr other ↦
          elim (cases_Bool (is_white b)) [
            | inl white ↦ let more = rw (other, white) at e in rw (other, white) (omega (arith, gap_len-append false after gap text more))
            | inr solid ↦ let none = rw (other, solid) at e in cc
          ]
    ]

-- the measured front of a text is all of it, or a gap
pub record Measured (in_comment : Bool) (text : List ℕ) : Type 0 where
  pub within : gap_len in_comment text ≤ length text
  pub blank : length text ≤ gap_len in_comment text → IsTrue (is_some (comment_after in_comment text))
  pub gap : gap_len in_comment text < length text → comment_after in_comment (take (gap_len in_comment text) text) ≡ Some false

pub measured : (in_comment : Bool) (text : List ℕ) → Measured in_comment text
measured in_comment [] = record { within = omega arith; blank = λ h. refl; gap = λ h. absurd (omega (arith, h)) }
measured true (b ∷ text) =
    let more = measured (not (ends_comment b)) text in
    record {
      within = omega (arith, more.within);
      blank = λ h. more.blank (omega (arith, h));
      gap = λ h. rw (one-add (gap_len (not (ends_comment b)) text)) (more.gap (omega (arith, h)));
    }
measured false (b ∷ text) =
    let comment = measured true text in
    let white = measured false text in
    record {
      within = elim (cases_Bool (b == 37)) [
        | inl percent ↦ rw percent (omega (arith, comment.within))
        | inr other ↦ elim (cases_Bool (is_white b)) [ inl blank ↦ rw (other, blank) (omega (arith, white.within)) | inr solid ↦ rw (other, solid) (omega arith) ]
      ];
      blank = elim (cases_Bool (b == 37)) [
        | inl percent ↦ rw percent (λ h. comment.blank (omega (arith, h)))
        | inr other ↦ elim (cases_Bool (is_white b)) [ inl blank ↦ rw (other, blank) (λ h. white.blank (omega (arith, h))) | inr solid ↦ rw (other, solid) (λ h. absurd (omega (arith, h))) ]
      ];
      gap = elim (cases_Bool (b == 37)) [
        | inl percent ↦ rw (percent, one-add (gap_len true text)) (λ h. rw percent (comment.gap (omega (arith, h))))
        | inr other ↦
            elim (cases_Bool (is_white b)) [
              | inl blank ↦ rw (other, blank, one-add (gap_len false text)) (λ h. rw (other, blank) (white.gap (omega (arith, h))))
              | inr solid ↦ rw (other, solid) (λ h. refl)
            ]
      ];
    }

some_value : (o : Option Bool) → IsTrue (is_some o) → (after : Bool) × (o ≡ Some after)
some_value None some = cc
some_value (Some after) some = (after, refl)

pub gap_len-blank : (text : List ℕ) → IsBlank text → gap_len false text ≡ length text
gap_len-blank text blank =
    let (after, is) = some_value (comment_after false text) blank in
    ap (gap_len false) (sym (append-nil text)) ∙ gap_len-append false after text [] is ∙ omega arith

-- ---- bytes of a comment that don't end it
plain_goes_on : (b : ℕ) → is_plain b ≡ true → ends_comment b ≡ false
plain_goes_on b plain =
    let above : 13 < b = ltb-true 13 b plain in or_from _ _ (ne_eqb b 10 (λ same. omega (arith, same, above))) (or_from _ _ (ne_eqb b 12 (λ same. omega (arith, same, above))) (or_from _ _ (ne_eqb b 13 (λ same. omega (arith, same, above))) refl))

plain_passed : (front rest : List ℕ) → list_all is_plain front ≡ true → gap_len true (front ++ rest) ≡ length front + gap_len true rest
plain_passed [] rest all = omega arith
plain_passed (b ∷ front) rest all =
    let (first, others) = and_parts (is_plain b) (list_all is_plain front) all in
    rw (plain_goes_on b first) (omega (arith, plain_passed front rest others))

pub plain_more : (text : List ℕ) (i n : ℕ) → i + n ≤ length text → list_all is_plain (take (i + n - i) (drop i text)) ≡ true → gap_len true (drop i text) ≡ n + gap_len true (drop (i + n) text)
plain_more text i n within all =
    let same : i + n - i ≡ n = omega arith in
    let size = length-take-le n (drop i text) (omega (arith, length-drop i text, within)) in
    sym (ap (gap_len true) (take-append-drop n (drop i text))) ∙ plain_passed (take n (drop i text)) (drop n (drop i text)) (rw same at all) ∙ ap (λ k. k + gap_len true (drop n (drop i text))) size ∙ ap (λ t. n + gap_len true t) (drop-drop n i text)

-- ---- a gap, from one of its bytes on
pub white_passed : (text : List ℕ) (i : ℕ) → i < length text → is_white (get_or text i 0) ≡ true → gap_len false (drop i text) ≡ 1 + gap_len false (drop (i + 1) text)
white_passed text i within white =
    let not_percent : (get_or text i 0 == 37) ≡ false = other_byte is_white 37 (get_or text i 0) refl white in
    ap (gap_len false) (drop_more text i 0 within) ∙ rw (not_percent, white) refl

pub comment_passed : (text : List ℕ) (i n : ℕ) → i < length text → get_or text i 0 ≡ 37 → let rest = take (length text - (i + 1)) (drop (i + 1) text) in gap_len true rest ≡ n + gap_len false (drop n rest) → gap_len false (drop i text) ≡ (1 + n) + gap_len false (drop (i + (1 + n)) text)
comment_passed text i n within percent e =
    let is_percent : (get_or text i 0 == 37) ≡ true = eq-eqb _ 37 percent in
    let begins : gap_len false (drop i text) ≡ 1 + gap_len true (drop (i + 1) text) = ap (gap_len false) (drop_more text i 0 within) ∙ rw is_percent refl in
    let same : i + 1 + n ≡ i + (1 + n) = omega arith in
    let after : drop n (drop (i + 1) text) ≡ drop (i + (1 + n)) text = drop-drop n (i + 1) text ∙ ap (λ k. drop k text) same in
    let more = rw (take_rest text (i + 1)) at e in
    omega (arith, begins, more, ap (gap_len false) after)

pub gap_ends : (text : List ℕ) (i : ℕ) → i < length text → is_white (get_or text i 0) ≡ false → (get_or text i 0 == 37) ≡ false → gap_len false (drop i text) ≡ 0
gap_ends text i within solid other = ap (gap_len false) (drop_more text i 0 within) ∙ rw (other, solid) refl
