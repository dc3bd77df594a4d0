-- Where a piece may have a fault: the pieces have these places in order, and in the text.
use Rattle.std.proofs.Common.{◌≡◌, ℕ, ◌+◌, ◌-◌, ◌<◌, ◌≤◌, ◌==◌, Bool, true, false, List, [], ◌∷◌, ◌++◌, length, take, drop, zero, suc, Option, Some, None, Ok, Err, refl, sym, ap, ◌∙◌, arith, inl, inr, length-drop, length-take-le}
use Rattle.std.specs.Prelude.{◌⊎◌, ◌&&◌, codes, nat_lt, not}
use Rattle.std.specs.Char.{is_digit}
use Rattle.std.specs.List.{list_all, list_any, prefix_len}
use Rattle.std.proofs.lemmas.Bool.{and_from, and_parts, cases_Bool, cases_lt, not-true, not_from_false}
use Rattle.std.proofs.lemmas.List.{drop-append-le, drop-drop, take-append-drop}
use Rattle.std.proofs.lemmas.List.Sums.{prefix_len-le-length}
use Rattle.cmap_tokens.specs.Bytes.{begins, is_regular, is_white}
use Rattle.cmap_tokens.specs.Malformed.{ends_line, fault_len, hexadecimal_fault_len, hexadecimal_piece_len, last_digits, malformed_piece_len, wrong_word}
use Rattle.cmap_tokens.specs.Pieces.{Piece, pieces_left, pieces_within}
use Rattle.cmap_tokens.specs.Tokens.{Token, is_hex_body, name_or_number}
use Rattle.cmap_tokens.specs.TokenReading.{first_piece, gap_len}
use Rattle.cmap_tokens.specs.TokensLeft.{start_of}
use Rattle.cmap_tokens.proofs.ByteTests.{by_byte, none_of, other_byte, prefix_len-append_all}
use Rattle.cmap_tokens.proofs.PiecesLeft.{at_start, piece_from, piece_none, piece_some, start_at, steps, stops}
use Rattle.cmap_tokens.proofs.TokenPieces.{IsFirst, first_is}

-- the offset after a token, or that of the fault of what is none
abbrev pub place : Piece → ℕ
place piece = elim piece.token [ Ok t ↦ piece.end | Err w ↦ w.offset ]

-- the places ascend, from low on and up to len
abbrev pub ArePlaced : ℕ → ℕ → List Piece → Type 0
ArePlaced len low [] = low ≤ len
ArePlaced len low (piece ∷ pieces) = (low ≤ place piece) × ArePlaced len (place piece) pieces

fault_within : (text : List ℕ) → fault_len text ≤ length text
fault_within [] = omega arith
fault_within (b ∷ text) = elim (cases_Bool (b == 60)) [
  | inl less ↦ rw less (elim (cases_Bool (prefix_len is_hex_body text == length text)) [
    | inl all ↦ rw all (omega arith)
    | inr wrong ↦ rw wrong (omega (arith, prefix_len-le-length is_hex_body text))
  ])
  | inr other ↦ rw other (elim (cases_Bool (b == 62)) [
    | inl greater ↦ rw greater (omega arith)
    | inr not_greater ↦ rw not_greater (omega arith)
  ])
]

-- ---- the wrong word of a hexadecimal string is regular
digit_regular : (b : ℕ) → is_digit b 16 ≡ true → is_regular b ≡ true
digit_regular b digit =
    let p : ℕ → Bool = λ c. is_digit c 16 in
    and_from _ _ (not_from_false _ (none_of p b (0 ∷ 9 ∷ 10 ∷ 12 ∷ 13 ∷ 32 ∷ []) refl digit)) (not_from_false _ (none_of p b (codes "()<>[]{}/%") refl digit))

-- a text ends with so many regular bytes
record EndsRegular (n : ℕ) (text : List ℕ) : Type 0 where
  before : ℕ
  whole : before + n ≡ length text
  regular : list_all is_regular (drop before text) ≡ true

-- it is all of digits, or ends with some
abbrev DigitsEnd : ℕ → List ℕ → Type 0
DigitsEnd count text = ((list_all is_regular text ≡ true) × (last_digits count text ≡ count + length text)) ⊎ EndsRegular (last_digits count text) text

digits_end : (count : ℕ) (text : List ℕ) → DigitsEnd count text
digits_end count [] = inl (refl, omega arith)
digits_end count (b ∷ text) = elim (cases_Bool (is_digit b 16)) [
  | inl digit ↦ rw digit (elim (digits_end (count + 1) text) [
    | inl (all, is) ↦ inl (and_from _ _ (digit_regular b digit) all, omega (arith, is))
    | inr ends ↦ inr (record { before = suc ends.before; whole = omega (arith, ends.whole); regular = ends.regular })
  ])
  | inr other ↦ rw other (elim (digits_end 0 text) [
    | inl (all, is) ↦ inr (record { before = 1; whole = omega (arith, is); regular = all })
    | inr ends ↦ inr (record { before = suc ends.before; whole = omega (arith, ends.whole); regular = ends.regular })
  ])
]

ends_regular : (text : List ℕ) → EndsRegular (last_digits 0 text) text
ends_regular text = elim (digits_end 0 text) [
  | inl (all, is) ↦ record { before = 0; whole = omega (arith, is); regular = all }
  | inr ends ↦ ends
]

begins_some : (text : List ℕ) → begins is_regular text ≡ true → 0 < prefix_len is_regular text
begins_some [] is = cc
begins_some (b ∷ text) is = rw is (omega arith)

-- it reaches past the wrong byte
word_past : (wrong : ℕ) (text : List ℕ) → wrong ≤ length text → begins is_regular (drop wrong text) ≡ true
    → let word = wrong - last_digits 0 (take wrong text) in wrong < word + prefix_len is_regular (drop word text)
word_past wrong text within regular =
    let front = take wrong text in
    let rest = drop wrong text in
    let long : length front ≡ wrong = length-take-le wrong text within in
    let ends = ends_regular front in
    let word : wrong - last_digits 0 front ≡ ends.before = omega (arith, ends.whole, long) in
    let cut : drop ends.before text ≡ drop ends.before front ++ rest = ap (drop ends.before) (sym (take-append-drop wrong text)) ∙ drop-append-le ends.before front rest (omega (arith, ends.whole)) in
    let run = prefix_len-append_all is_regular (drop ends.before front) rest ends.regular in
    rw (word, cut) (omega (arith, run, begins_some rest regular, length-drop ends.before front, ends.whole, long))

-- ---- from the place of a piece to its end
-- an offset isn't past another one, or lies in the regular bytes that stand there
abbrev Reaches : ℕ → ℕ → List ℕ → Type 0
Reaches low end rest = (low ≤ end) ⊎ (low < end + prefix_len is_regular rest)

-- the wrong byte of a hexadecimal string, from its end on
hex_reaches : (wrong : ℕ) (text : List ℕ) → wrong ≤ length text → Reaches wrong (hexadecimal_piece_len wrong text) (drop (hexadecimal_piece_len wrong text) text)
hex_reaches wrong text within = elim (cases_Bool (nat_lt wrong (length text) && list_any ends_line (take (wrong_word wrong text) text))) [
  | inr other ↦ rw other (inl (omega arith))
  | inl ends ↦ rw ends (elim (cases_Bool (begins is_regular (drop wrong text))) [
    | inr special ↦ rw special (inl (omega arith))
    | inl regular ↦ rw regular (inr (word_past wrong text within regular))
  ])
]

reach_less : (low high end : ℕ) (rest : List ℕ) → low ≤ high → Reaches high end rest → Reaches low end rest
reach_less low high end rest less (inl before) = inl (omega (arith, less, before))
reach_less low high end rest less (inr within) = inr (omega (arith, less, within))

reach_more : (start low len : ℕ) (rest later : List ℕ) → rest ≡ later → Reaches low len rest → Reaches (start + low) (start + len) later
reach_more start low len rest later is (inl before) = inl (omega (arith, before))
reach_more start low len rest later is (inr within) = rw (← is) (inr (omega (arith, within)))

fault_reaches : (text : List ℕ) → Reaches (fault_len text) (malformed_piece_len text) (drop (malformed_piece_len text) text)
fault_reaches [] = inl (omega arith)
fault_reaches (b ∷ text) =
    let P : ℕ → Type 0 = λ c. Reaches (fault_len (c ∷ text)) (malformed_piece_len (c ∷ text)) (drop (malformed_piece_len (c ∷ text)) (c ∷ text)) in
    by_byte b 60 P (
    let wrong = 1 + prefix_len is_hex_body text in
    let most : hexadecimal_fault_len text ≤ wrong = elim (cases_Bool (prefix_len is_hex_body text == length text)) [ inl all ↦ rw all (omega arith) | inr not_all ↦ rw not_all (omega arith) ] in
    let len = hexadecimal_piece_len wrong (60 ∷ text) in
    reach_less _ wrong len (drop len (60 ∷ text)) most (hex_reaches wrong (60 ∷ text) (omega (arith, prefix_len-le-length is_hex_body text)))
    ) (λ not_less. by_byte b 62 (λ c. (c == 60) ≡ false → P c) (λ _. inl (omega arith)) (λ not_greater _. rw (not_less, not_greater) (inl (omega arith))) not_less)

-- ---- one piece after another
-- regular bytes are a token
regular_first : (text : List ℕ) → 0 < prefix_len is_regular text → (gap_len false text ≡ 0) × (first_piece text ≡ Some (name_or_number (take (prefix_len is_regular text) text), prefix_len is_regular text))
unfolding first_piece
regular_first [] some = absurd (omega (arith, some))
regular_first (b ∷ text) some = elim (cases_Bool (is_regular b)) [
  | inr special ↦ let none = rw special at some in absurd (omega (arith, none))
  | inl regular ↦
      let not_percent = other_byte is_regular 37 b refl regular in
      let not_white = not-true (is_white b) (and_parts (not (is_white b)) _ regular).0 in
      (rw (not_percent, not_white) refl, rw regular refl)
]

module _ (source : List ℕ) where
  place_by : (start : ℕ) → start < length source → place (piece_from source start) ≤ length source
  place_by start before = by (first_piece (drop start source)) refl
    where
      size : length (drop start source) ≡ length source - start
      size = length-drop start source

      by : (found : Option (Token × ℕ)) → first_piece (drop start source) ≡ found → place (piece_from source start) ≤ length source
      by (Some first) is =
          let whole : IsFirst (drop start source) first = rw is at (first_is (drop start source)) in
          rw (sym (piece_some start (drop start source) first.0 first.1 (sym is))) (omega (arith, whole.within, size, before))
      by None is = rw (sym (piece_none start (drop start source) is)) (omega (arith, fault_within (drop start source), size, before))

  -- a piece that begins at an offset has its place after that, and its end reaches there
  place_reaches : (start : ℕ) → start < length source → let end = start + (at_start source start).1 in (start ≤ place (piece_from source start)) × Reaches (place (piece_from source start)) end (drop end source)
  place_reaches start before = by (first_piece (drop start source)) refl
    where
      by : (found : Option (Token × ℕ)) → first_piece (drop start source) ≡ found → let end = start + (at_start source start).1 in (start ≤ place (piece_from source start)) × Reaches (place (piece_from source start)) end (drop end source)
      by (Some first) is = rw (sym (piece_some start (drop start source) first.0 first.1 (sym is))) (omega arith, inl (omega arith))
      by None is =
          let text = drop start source in
          rw (sym (piece_none start text is)) (omega arith, reach_more start (fault_len text) (malformed_piece_len text) (drop (malformed_piece_len text) text) (drop (start + malformed_piece_len text) source) (drop-drop (malformed_piece_len text) start source) (fault_reaches text))

  place_after : (low passed : ℕ) → Reaches low passed (drop passed source) → start_at source passed < length source → low ≤ place (piece_from source (start_at source passed))
  place_after low passed (inl least) before = omega (arith, least, (place_reaches (start_at source passed) before).0)
  place_after low passed (inr within) before = elim (cases_lt 0 (prefix_len is_regular (drop passed source))) [
    | inr none ↦ omega (arith, within, none, (place_reaches (start_at source passed) before).0)
    | inl some ↦
        let text = drop passed source in
        let len = prefix_len is_regular text in
        let (no_gap, first) = regular_first text some in
        let here : start_at source passed ≡ passed = omega (arith, no_gap) in
        rw (here, sym (piece_some passed text (name_or_number (take len text)) len (sym first))) (omega (arith, within))
  ]

  placed : (n low passed : ℕ) → low ≤ length source → Reaches low passed (drop passed source) → ArePlaced (length source) low (pieces_within n source passed)
  unfolding pieces_within
  placed zero low passed within reaches = within
  placed (suc n) low passed within reaches = elim (cases_lt (start_at source passed) (length source)) [
    | inr past ↦ rw (stops (suc n) source passed past) within
    | inl before ↦
        let start = start_at source passed in
        let end = start + (at_start source start).1 in
        rw (steps n source passed before) (place_after low passed reaches before, placed n (place (piece_from source start)) end (place_by start before) (place_reaches start before).1)
  ]

-- those of a text
pub places_ascend : (text : List ℕ) → ArePlaced (length text) 0 (pieces_left (start_of text))
unfolding pieces_left
places_ascend text = placed text _ 0 0 (omega arith) (inl (omega arith))
