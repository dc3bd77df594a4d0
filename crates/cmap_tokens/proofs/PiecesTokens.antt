-- The pieces of a text are its tokens, as far as these go.
use Rattle.std.proofs.Common.{◌≡◌, ℕ, ◌+◌, ◌-◌, ◌<◌, ◌≤◌, ◌==◌, Bool, true, false, List, [], ◌∷◌, length, take, drop, zero, suc, Option, Some, None, Ok, Err, ap, refl, sym, ◌∙◌, subst, arith, inl, inr, length-drop}
use Rattle.std.specs.List.{prefix_len}
use Rattle.std.proofs.lemmas.Bool.{cases_Bool, cases_lt, eqb-true, le-leb, lt-leb}
use Rattle.std.proofs.lemmas.List.{drop-drop, drop_all, take_rest}
use Rattle.cmap_tokens.specs.Malformed.{Malformed, blank_after, fault_len, malformed_kind, stray, unclosed_hexadecimal, unclosed_text, wrong_digit}
use Rattle.cmap_tokens.specs.Pieces.{Piece, Wrong, malformed_at, piece_at, pieces_left}
use Rattle.cmap_tokens.specs.Tokens.{Token, is_hex_body}
use Rattle.cmap_tokens.specs.TokenReading.{first_piece, gap_len, malformed_len}
use Rattle.cmap_tokens.specs.TokensLeft.{EndedToken, Left, after_gap, no_token, start_of, tokens_of, with_token}
use Rattle.cmap_tokens.proofs.ByteTests.{by_byte}
use Rattle.cmap_tokens.proofs.Fronts.{first_token_is, front_long, left_from, left_front, left_none, passed_is}
use Rattle.cmap_tokens.proofs.Gaps.{measured}
use Rattle.cmap_tokens.proofs.PiecesLeft.{first_filled, from, left_piece, piece_none, piece_some}
use Rattle.cmap_tokens.proofs.PiecesLeft as pieces
use Rattle.cmap_tokens.proofs.TokenPieces.{IsFirst, first_is}

-- the offset of a fault, in a text of this length, where this byte shows that no token comes
abbrev pub IsAt : ℕ → Malformed → ℕ → ℕ → Type 0
IsAt len unclosed_text offset stop = stop ≡ len
IsAt len unclosed_hexadecimal offset stop = stop ≡ len
IsAt len wrong_digit offset stop = offset ≡ stop
IsAt len stray offset stop = offset ≡ stop

-- pieces that begin with these tokens; after them the text ends, or a piece comes that is none
abbrev pub CutSo : ℕ → List EndedToken → Bool → Malformed → ℕ → List Piece → Type 0
CutSo len [] true kind stop all = (all ≡ []) × (stop ≡ len)
CutSo len [] false kind stop all = (w : Wrong) × (end : ℕ) × (begins : Bool) × (more : List Piece) × (all ≡ record { token = Err w; end = end; begins_line = begins } ∷ more) × (w.kind ≡ kind) × IsAt len kind w.offset stop
CutSo len (p ∷ tokens) ends kind stop all = (begins : Bool) × (more : List Piece) × (all ≡ record { token = Ok p.token; end = p.end; begins_line = begins } ∷ more) × CutSo len tokens ends kind stop more

abbrev pub Cut : ℕ → Left → List Piece → Type 0
Cut len left all = CutSo len left.tokens left.ends left.kind left.stop all

-- ---- a piece that is no token
hex_at : (start len : ℕ) (text : List ℕ) → start + (1 + length text) ≡ len → IsAt len (malformed_kind (60 ∷ text)) (start + fault_len (60 ∷ text)) (start + malformed_len (60 ∷ text))
hex_at start len text whole = elim (cases_Bool (prefix_len is_hex_body text == length text)) [
  | inl all ↦ rw all (omega (arith, eqb-true (prefix_len is_hex_body text) (length text) all, whole))
  | inr wrong ↦ rw wrong refl
]

fault_at : (start len : ℕ) (text : List ℕ) → start + length text ≡ len → IsAt len (malformed_kind text) (start + fault_len text) (start + malformed_len text)
fault_at start len [] = λ whole. refl
fault_at start len (b ∷ text) =
    let P : ℕ → Type 0 = λ c. start + length (c ∷ text) ≡ len → IsAt len (malformed_kind (c ∷ text)) (start + fault_len (c ∷ text)) (start + malformed_len (c ∷ text)) in
    by_byte b 60 P (λ whole. hex_at start len text (omega (arith, whole))) (λ not_less.
    by_byte b 62 P (λ whole. refl) (λ not_greater.
    by_byte b 40 P (λ whole. omega (arith, whole)) (λ not_open whole. rw (not_less, not_greater, not_open) refl)))

module _ (source : List ℕ) where
  none_cut : (passed : ℕ) → passed ≤ length source → first_piece (after_gap (drop passed source)) ≡ None → Cut (length source) (no_token passed (drop passed source)) (pieces_left (from source passed))
  none_cut passed within none =
      let rest = drop passed source in
      let gap = gap_len false rest in
      let inside = (measured false rest).within in
      let size = length-drop passed source in
      elim (cases_lt gap (length rest)) [
        | inr all ↦
            let empty : after_gap rest ≡ [] = drop_all gap rest all in
            rw (le-leb (length rest) gap all) (pieces.left_none source passed gap refl (omega (arith, all, size, within)), omega (arith, ap malformed_len empty, inside, all, size, within))
        | inl some ↦
            let start = passed + gap in
            let at : drop start source ≡ after_gap rest = sym (drop-drop gap passed source) in
            let piece : malformed_at start (after_gap rest) ≡ piece_at start (drop start source) = piece_none start (after_gap rest) none ∙ ap (piece_at start) (sym at) in
            let left = left_piece source passed gap (malformed_at start (after_gap rest)).1 (malformed_at start (after_gap rest)).0 (blank_after true (take start source)) within refl (omega (arith, some, size)) piece refl in
            rw (lt-leb (length rest) gap some) (
              _,
              _,
              _,
              _,
              left,
              refl,
              subst (λ n. IsAt (length source) (malformed_kind (after_gap rest)) (start + fault_len (after_gap rest)) n) (omega arith) (fault_at start (length source) (after_gap rest) (omega (arith, length-drop gap rest, size, within, inside, some))),
            )
      ]

  -- a token comes first
  some_cut : (passed m : ℕ) (token : Token) → passed ≤ length source → first_piece (after_gap (drop passed source)) ≡ Some (token, m)
      → let next = passed + gap_len false (drop passed source) + m in (passed < next) × (next ≤ length source) × (Cut (length source) (left_from next (drop next source)) (pieces_left (from source next)) → Cut (length source) (left_from passed (drop passed source)) (pieces_left (from source passed)))
  some_cut passed m token within some =
      let rest = drop passed source in
      let gap = gap_len false rest in
      let start = passed + gap in
      let next = start + m in
      let inside = (measured false rest).within in
      let size = length-drop passed source in
      let first : IsFirst (after_gap rest) (token, m) = rw some at (first_is (after_gap rest)) in
      let from_gap : take (length rest - gap) (drop gap rest) ≡ after_gap rest = take_rest rest gap in
      let (g, piece, only, long) = first_token_is rest gap m token refl (omega (arith, first.within, ap length from_gap)) (sym (ap first_piece from_gap ∙ some)) in
      let (sum, filled) = front_long only.front in
      let end : passed + (length g + length piece) ≡ next = omega (arith, long) in
      let dropped : drop (gap + m) rest ≡ drop next source = drop-drop (gap + m) passed source ∙ ap (λ n. drop n source) (omega arith) in
      let before : start < length source = omega (arith, size, sum, long, first_filled (after_gap rest) (token, m) some) in
      let at : drop start source ≡ after_gap rest = sym (drop-drop gap passed source) in
      let piece_is : (Ok token, m) ≡ piece_at start (drop start source) = piece_some start (after_gap rest) token m (sym some) ∙ ap (piece_at start) (sym at) in
      let begins = blank_after true (take start source) in
      let later = left_from next (drop next source) in
      let pieces_are = left_piece source passed gap m (Ok token) begins within refl before piece_is refl in
      let left_is : left_from passed rest ≡ with_token token passed later = left_front only.front passed ∙ ap (with_token token passed) (ap (λ n. left_from n (drop (gap + m) rest)) end ∙ ap (left_from next) dropped) in
      let ends : next ≡ later.passed = sym (passed_is next (drop next source)) in (
        omega (arith, long, filled),
        omega (arith, size, sum, long, within),
        λ more. subst (λ l. Cut (length source) l (pieces_left (from source passed))) (sym left_is) (
          begins,
          pieces_left (from source next),
          pieces_are ∙ ap (λ n. let q : Piece = record { token = Ok token; end = n; begins_line = begins } in q ∷ pieces_left (from source next)) ends,
          more,
        ),
      )

  cut_from : (n passed : ℕ) → passed ≤ length source → length source < passed + n → Cut (length source) (left_from passed (drop passed source)) (pieces_left (from source passed))
  cut_from zero passed within few = absurd (omega (arith, within, few))
  cut_from (suc n) passed within few = by (λ later inside less. cut_from n later inside less) (first_piece (after_gap (drop passed source))) refl
    where
      by : ((later : ℕ) → later ≤ length source → length source < later + n → Cut (length source) (left_from later (drop later source)) (pieces_left (from source later))) → (found : Option (Token × ℕ)) → first_piece (after_gap (drop passed source)) ≡ found
          → Cut (length source) (left_from passed (drop passed source)) (pieces_left (from source passed))
      by more None is = subst (λ l. Cut (length source) l (pieces_left (from source passed))) (sym (left_none passed (drop passed source) is)) (none_cut passed within is)
      by more (Some (token, m)) is =
          let (past, inside, goes_on) = some_cut passed m token within is in
          goes_on (more (passed + gap_len false (drop passed source) + m) inside (omega (arith, few, past)))

-- the pieces of a text begin with its tokens
pub pieces_cut : (text : List ℕ) → Cut (length text) (tokens_of (start_of text)) (pieces_left (start_of text))
unfolding tokens_of
pieces_cut text = cut_from text (suc (length text)) 0 (omega arith) (omega arith)
