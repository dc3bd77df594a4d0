-- The pieces that are left of a text, one after another.
use Rattle.std.proofs.Common.{◌≡◌, ℕ, ◌+◌, ◌<◌, ◌≤◌, Bool, true, false, List, [], ◌∷◌, length, take, drop, zero, suc, Option, Some, None, Result, Ok, ap, refl, sym, ◌∙◌, subst, arith, inl, inr, length-drop, length-take, one-add}
use Rattle.std.specs.Prelude.{◌&&◌, nat_lt}
use Rattle.std.specs.Char.{is_digit}
use Rattle.std.specs.List.{list_any, prefix_len}
use Rattle.std.proofs.lemmas.Bool.{cases_Bool, cases_lt, le-leb, lt-leb}
use Rattle.std.proofs.lemmas.List.{drop_more}
use Rattle.cmap_tokens.specs.Bytes.{begins, is_regular}
use Rattle.cmap_tokens.specs.Malformed.{blank_after, ends_line, hexadecimal_piece_len, last_digits, malformed_piece_len, wrong_word}
use Rattle.cmap_tokens.specs.Pieces.{IsUnclosed, Piece, Wrong, malformed_at, piece_at, pieces_left, pieces_within}
use Rattle.cmap_tokens.specs.Scanner.{Cursor}
use Rattle.cmap_tokens.specs.Tokens.{Token, is_hex_body}
use Rattle.cmap_tokens.specs.TokenReading.{first_piece, gap_len, one_more, string_of, text_len, opened}
use Rattle.cmap_tokens.proofs.ByteTests.{by_byte}
use Rattle.cmap_tokens.proofs.TokenPieces.{IsFirst, first_is, is_read}

-- ---- the piece at an offset
-- a ( that isn't closed begins no token
pub unclosed_none : (text : List ℕ) (start : ℕ) → IsUnclosed text start → first_piece (drop start text) ≡ None
unfolding first_piece
unclosed_none text start (within, is, none) =
    let next : drop (start + 1) text ≡ drop (suc start) text = let same : start + 1 ≡ suc start = omega arith in ap (λ n. drop n text) same in
    rw (drop_more text start 0 within, is) (ap (λ o. string_of (40 ∷ drop (start + 1) text) (one_more o)) (ap (text_len opened) next ∙ none))

pub piece_none : (start : ℕ) (text : List ℕ) → first_piece text ≡ None → malformed_at start text ≡ piece_at start text
piece_none start text none = rw (none, piece_at) refl

pub piece_some : (start : ℕ) (text : List ℕ) (token : Token) (len : ℕ) → Some (token, len) ≡ first_piece text → (Ok token, len) ≡ piece_at start text
piece_some start text token len is = rw (← is, piece_at) refl

-- ---- it has a byte or more
pub first_filled : (text : List ℕ) (first : Token × ℕ) → first_piece text ≡ Some first → 0 < first.1
first_filled text first is =
    let read : IsFirst text first = rw is at (first_is text) in
    let filled = (is_read (take first.1 text) first.0 (drop first.1 text) read.is_token read.longest).filled in
    omega (arith, filled, length-take first.1 text)

digits_within : (count : ℕ) (text : List ℕ) → last_digits count text ≤ count + length text
digits_within count [] = omega arith
digits_within count (b ∷ text) = elim (cases_Bool (is_digit b 16)) [
  | inl digit ↦ rw digit (omega (arith, digits_within (count + 1) text))
  | inr other ↦ rw other (omega (arith, digits_within 0 text))
]

word_filled : (n : ℕ) (text : List ℕ) → 0 < wrong_word (1 + n) (60 ∷ text)
word_filled n text = elim (cases_Bool (begins is_regular (drop (1 + n) (60 ∷ text)))) [
  | inl regular ↦
      let same : take (1 + n) (60 ∷ text) ≡ 60 ∷ take n text = rw one-add refl in
      rw regular (omega (arith, ap (last_digits 0) same, digits_within 0 (take n text), length-take n text))
  | inr special ↦ rw special (omega arith)
]

hex_filled : (n : ℕ) (text : List ℕ) → 0 < hexadecimal_piece_len (1 + n) (60 ∷ text)
hex_filled n text = elim (cases_Bool (nat_lt (1 + n) (length (60 ∷ text)) && list_any ends_line (take (wrong_word (1 + n) (60 ∷ text)) (60 ∷ text)))) [
  | inl ends ↦ rw ends (word_filled n text)
  | inr other ↦ rw other (omega arith)
]

malformed_filled : (text : List ℕ) → 0 < length text → 0 < malformed_piece_len text
malformed_filled [] some = absurd (omega (arith, some))
malformed_filled (b ∷ text) some = by_byte b 60 (λ c. 0 < malformed_piece_len (c ∷ text)) (hex_filled (prefix_len is_hex_body text) text) (λ other. rw other (omega arith))

filled_from : (start : ℕ) (text : List ℕ) (found : Option (Token × ℕ)) → first_piece text ≡ found → 0 < length text → 0 < (piece_at start text).1
filled_from start text None is some = rw (is, piece_at) (malformed_filled text some)
filled_from start text (Some first) is some = rw (is, piece_at) (first_filled text first is)

piece_filled : (start : ℕ) (text : List ℕ) → 0 < length text → 0 < (piece_at start text).1
piece_filled start text some = filled_from start text _ refl some

-- ---- one after another
abbrev pub start_at : List ℕ → ℕ → ℕ
start_at source passed = passed + gap_len false (drop passed source)

abbrev pub at_start : List ℕ → ℕ → Result Token Wrong × ℕ
at_start source start = piece_at start (drop start source)

abbrev pub piece_from : List ℕ → ℕ → Piece
piece_from source start = record { token = (at_start source start).0; end = start + (at_start source start).1; begins_line = blank_after true (take start source) }

pub stops : (n : ℕ) (source : List ℕ) (passed : ℕ) → length source ≤ start_at source passed → pieces_within n source passed ≡ []
unfolding pieces_within
stops zero source passed past = refl
stops (suc n) source passed past = rw (le-leb _ _ past) refl

pub steps : (n : ℕ) (source : List ℕ) (passed : ℕ) → start_at source passed < length source
    → pieces_within (suc n) source passed ≡ piece_from source (start_at source passed) ∷ pieces_within n source (start_at source passed + (at_start source (start_at source passed)).1)
unfolding pieces_within
steps n source passed before = rw (lt-leb _ _ before) refl

enough : (n m : ℕ) (source : List ℕ) (passed : ℕ) → length source ≤ passed + n → length source ≤ passed + m → pieces_within n source passed ≡ pieces_within m source passed
enough zero m source passed a b = stops zero source passed (omega (arith, a)) ∙ sym (stops m source passed (omega (arith, a)))
enough (suc n) zero source passed a b = stops (suc n) source passed (omega (arith, b)) ∙ sym (stops zero source passed (omega (arith, b)))
enough (suc n) (suc m) source passed a b =
    let start = start_at source passed in
    elim (cases_lt start (length source)) [
      | inr past ↦ stops (suc n) source passed past ∙ sym (stops (suc m) source passed past)
      | inl before ↦
          let filled = piece_filled start (drop start source) (omega (arith, before, length-drop start source)) in
          steps n source passed before
          ∙ ap (λ rest. piece_from source start ∷ rest) (enough n m source (start + (at_start source start).1) (omega (arith, a, filled)) (omega (arith, b, filled)))
          ∙ sym (steps m source passed before)
    ]

-- what is left from an offset on
abbrev pub from : List ℕ → ℕ → Cursor
from source passed = record { source = source; passed = passed }

pub left_none : (source : List ℕ) (passed gap : ℕ) → gap ≡ gap_len false (drop passed source) → length source ≤ passed + gap → pieces_left (from source passed) ≡ []
unfolding pieces_left
left_none source passed gap is past = stops (length (drop passed source)) source passed (omega (arith, is, past))

left_first : (source : List ℕ) (passed : ℕ) → passed ≤ length source → start_at source passed < length source
    → pieces_left (from source passed) ≡ piece_from source (start_at source passed) ∷ pieces_left (from source (start_at source passed + (at_start source (start_at source passed)).1))
unfolding pieces_left
left_first source passed within before =
    let end = start_at source passed + (at_start source (start_at source passed)).1 in
    enough (length (drop passed source)) (suc (length source)) source passed (omega (arith, length-drop passed source)) (omega arith)
    ∙ steps (length source) source passed before
    ∙ ap (λ rest. piece_from source (start_at source passed) ∷ rest) (enough (length source) (length (drop end source)) source end (omega arith) (omega (arith, length-drop end source)))

-- what is read is the first one
pub left_piece : (source : List ℕ) (passed gap len : ℕ) (token : Result Token Wrong) (begins_line : Bool) → passed ≤ length source → gap ≡ gap_len false (drop passed source) → passed + gap < length source
    → (token, len) ≡ piece_at (passed + gap) (drop (passed + gap) source) → begins_line ≡ blank_after true (take (passed + gap) source)
    → pieces_left (from source passed) ≡ record { token = token; end = passed + gap + len; begins_line = begins_line } ∷ pieces_left (from source (passed + gap + len))
left_piece source passed gap len token begins_line within is before piece begins =
    let start = passed + gap in
    let same : start_at source passed ≡ start = ap (λ n. passed + n) (sym is) in
    let Begins : ℕ → Type 0 = λ s. pieces_left (from source passed) ≡ piece_from source s ∷ pieces_left (from source (s + (at_start source s).1)) in
    let seen : Result Token Wrong × ℕ → Bool → List Piece = λ p b. let first : Piece = record { token = p.0; end = start + p.1; begins_line = b } in first ∷ pieces_left (from source (start + p.1)) in
    subst Begins same (left_first source passed within (omega (arith, is, before)))
    ∙ ap (λ p. seen p (blank_after true (take start source))) (sym piece)
    ∙ ap (seen (token, len)) (sym begins)
