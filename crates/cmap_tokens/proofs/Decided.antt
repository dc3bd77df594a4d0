-- Which bytes decide on the tokens: what is read before the end of a front of a text is read whatever follows that front.
use Rattle.std.proofs.Common.{◌≡◌, ℕ, ◌+◌, ◌<◌, Bool, true, false, not, ◌==◌, List, [], ◌∷◌, ◌++◌, length, take, drop, Option, Some, None, zero, suc, inl, inr, refl, sym, ap, ◌∙◌, subst, arith, append_assoc, length-append, length-drop, length-take-le, ◌-◌, one-add}
use Rattle.std.specs.List.{prefix_len}
use Rattle.std.proofs.lemmas.Bool.{cases_Bool, lt-leb, ne_eqb}
use Rattle.std.proofs.lemmas.Option.{none-some}
use Rattle.std.proofs.Math.ListN.{get_or-append}
use Rattle.std.proofs.Math.Seq.{take-append-add}
use Rattle.std.proofs.lemmas.List.{drop-append-le, take-append-drop}
use Rattle.cmap_tokens.specs.Bytes.{begins, is_regular, is_white}
use Rattle.cmap_tokens.specs.Gaps.{ends_comment}
use Rattle.cmap_tokens.specs.Malformed.{hexadecimal_kind, malformed_kind, wrong_digit}
use Rattle.cmap_tokens.specs.Tokens.{Token, Front, is_bracket, is_hex_body}
use Rattle.cmap_tokens.specs.TokenReading.{one_more, gap_len, hex_len, string_of, first_piece, malformed_len}
use Rattle.cmap_tokens.specs.TokensLeft.{after_gap, Agree, AgreesTo, IsDecidedByFronts, EndInOrder, Left, EndedToken, start_of, tokens_of, with_token}
use Rattle.cmap_tokens.proofs.ByteTests.{by_byte}
use Rattle.cmap_tokens.proofs.Fronts.{front_long, left_from, left_front, left_none, next, none, one, passed_is}

gap_kept : (in_comment : Bool) (front s t : List ℕ) → gap_len in_comment (front ++ s) < length front → gap_len in_comment (front ++ t) ≡ gap_len in_comment (front ++ s)
gap_kept in_comment [] s t short = absurd (omega (arith, short))
gap_kept true (b ∷ front) s t short = ap (λ n. 1 + n) (gap_kept (not (ends_comment b)) front s t (omega (arith, short)))
gap_kept false (b ∷ front) s t short =
    elim (cases_Bool (b == 37)) [
      | inl percent ↦ let less = rw percent at short in rw percent (ap (λ n. 1 + n) (gap_kept true front s t (omega (arith, less))))
      | inr other ↦
          elim (cases_Bool (is_white b)) [
            | inl white ↦ let less = rw (other, white) at short in rw (other, white) (ap (λ n. 1 + n) (gap_kept false front s t (omega (arith, less))))
            | inr solid ↦ rw (other, solid) refl
          ]
    ]

hex_kept : (front s t : List ℕ) → prefix_len is_hex_body (front ++ s) < length front → prefix_len is_hex_body (front ++ t) ≡ prefix_len is_hex_body (front ++ s)
hex_kept [] s t short = absurd (omega (arith, short))
hex_kept (b ∷ front) s t short =
    elim (cases_Bool (is_hex_body b)) [
      | inl passes ↦ let less = rw passes at short in rw passes (ap (λ n. 1 + n) (hex_kept front s t (omega (arith, less))))
      | inr fails ↦ rw fails refl
    ]

hex_len-kept : (front s t : List ℕ) → prefix_len is_hex_body (front ++ s) < length front → hex_len (front ++ t) ≡ hex_len (front ++ s)
hex_len-kept front s t short =
    let n = prefix_len is_hex_body (front ++ s) in
    rw (hex_kept front s t short, get_or-append front t 0 n short, get_or-append front s 0 n short) refl

-- no piece, which is seen within the front
abbrev NoneKept : List ℕ → List ℕ → List ℕ → Type 0
NoneKept front s t = first_piece (front ++ s) ≡ None → malformed_len (front ++ s) < length front
    → (first_piece (front ++ t) ≡ None) × (malformed_len (front ++ t) ≡ malformed_len (front ++ s)) × (malformed_kind (front ++ t) ≡ malformed_kind (front ++ s))

no_string : (piece other : List ℕ) (len : Option ℕ) → string_of piece (one_more len) ≡ None → string_of other (one_more len) ≡ None
no_string piece other None e = refl
no_string piece other (Some n) e = cc

-- a byte that is no digit comes before the end of the front
wrong_within : (front s : List ℕ) → prefix_len is_hex_body (front ++ s) < length front → hexadecimal_kind (front ++ s) ≡ wrong_digit
wrong_within front s short = let other : (prefix_len is_hex_body (front ++ s) == length (front ++ s)) ≡ false = ne_eqb _ _ (λ same. omega (arith, same, short, length-append front s)) in rw other refl

less_kept : (front s t : List ℕ) → NoneKept (60 ∷ front) s t
unfolding first_piece
less_kept [] s t e short = absurd (omega (arith, short))
less_kept (b ∷ front) s t e short =
    let within : prefix_len is_hex_body (b ∷ front ++ s) < length (b ∷ front) = omega (arith, short) in
    let same = hex_len-kept (b ∷ front) s t within in
    elim (cases_Bool (b == 60)) [
      | inl again ↦ let clash = rw again at e in cc
      | inr single ↦ (rw single (ap (λ o. string_of (60 ∷ b ∷ front ++ t) (one_more o)) same ∙ no_string _ _ (hex_len (b ∷ front ++ s)) (rw single at e)), ap (λ n. 1 + n) (hex_kept (b ∷ front) s t within), wrong_within (b ∷ front) t (omega (arith, hex_kept (b ∷ front) s t within, within)) ∙ sym (wrong_within (b ∷ front) s within))
    ]

greater_kept : (front s t : List ℕ) → NoneKept (62 ∷ front) s t
unfolding first_piece
greater_kept [] s t e short = absurd (omega (arith, short))
greater_kept (b ∷ front) s t e short = (e, refl, refl)

nothing_first : (b : ℕ) (text other : List ℕ) → (b == 60) ≡ false → (b == 62) ≡ false → (b == 40) ≡ false → first_piece (b ∷ text) ≡ None → first_piece (b ∷ other) ≡ None
unfolding first_piece
nothing_first b text other not_less not_greater not_open e =
    elim (cases_Bool (is_regular b)) [
      | inl regular ↦ let clash = rw regular at e in absurd (none-some _ (sym clash))
      | inr special ↦
          elim (cases_Bool (is_bracket b)) [
            | inl bracket ↦ let clash = rw (special, bracket) at e in absurd (none-some _ (sym clash))
            | inr not_bracket ↦
                elim (cases_Bool (b == 47)) [
                  | inl slash ↦ let clash = rw (special, not_bracket, slash) at e in absurd (none-some _ (sym clash))
                  | inr not_slash ↦ rw (special, not_bracket, not_slash, not_less, not_greater, not_open) refl
                ]
          ]
    ]

nothing_kept : (front s t : List ℕ) → NoneKept front s t
unfolding first_piece
nothing_kept [] s t = λ e short. absurd (omega (arith, short))
nothing_kept (b ∷ front) s t =
    let P : ℕ → Type 0 = λ c. NoneKept (c ∷ front) s t in
    by_byte b 60 P (less_kept front s t) (λ not_less. by_byte b 62 P (greater_kept front s t) (λ not_greater.
    by_byte b 40 P (λ e short. absurd (omega (arith, short, length-append front s))) (λ not_open e short.
    (nothing_first b (front ++ s) (front ++ t) not_less not_greater not_open e, rw (not_less, not_greater, not_open) refl, rw (not_less, not_open) refl))))

pub none_kept : (front s t text : List ℕ) → text ≡ front ++ s → first_piece (after_gap text) ≡ None → gap_len false text + malformed_len (after_gap text) < length front
    → (gap_len false (front ++ t) ≡ gap_len false text) × (first_piece (after_gap (front ++ t)) ≡ None) × (malformed_len (after_gap (front ++ t)) ≡ malformed_len (after_gap text)) × (malformed_kind (after_gap (front ++ t)) ≡ malformed_kind (after_gap text))
none_kept front s t text is e short =
    let n = gap_len false text in
    let begun : gap_len false (front ++ s) ≡ n = sym (ap (gap_len false) is) in
    let gap : gap_len false (front ++ t) ≡ n = gap_kept false front s t (omega (arith, begun, short)) ∙ begun in
    let after : after_gap text ≡ drop n front ++ s = ap (drop n) is ∙ drop-append-le n front s (omega (arith, short)) in
    let other_after : after_gap (front ++ t) ≡ drop n front ++ t = rw gap (drop-append-le n front t (omega (arith, short))) in
    let kept = nothing_kept (drop n front) s t (sym (ap first_piece after) ∙ e) (omega (arith, short, ap malformed_len after, length-drop n front)) in
    (gap, ap first_piece other_after ∙ kept.0, ap malformed_len other_after ∙ kept.1 ∙ sym (ap malformed_len after), ap malformed_kind other_after ∙ kept.2 ∙ sym (ap malformed_kind after))

-- ---- the tokens that are left
order : (n passed : ℕ) (text : List ℕ) → length text < n → EndInOrder (left_from passed text)
order zero passed text few = absurd (omega (arith, few))
order (suc n) passed text few =
    elim (next text) [
      | none e ↦ rw (left_none passed text e) (omega arith)
      | one {gap = gap} {piece = piece} {rest = rest} front ↦
          let at = passed + (length gap + length piece) in
          rw (left_front front passed) (omega (arith, passed_is at rest), order n at rest (omega (arith, few, front_long front)))
    ]

pub in_order : (text : List ℕ) → EndInOrder (tokens_of (start_of text))
unfolding tokens_of
in_order text = order (suc (length text)) 0 text (omega arith)

-- a token before both
one_agrees : (k : ℕ) (token : Token) (passed : ℕ) (tokens others : List EndedToken) (next other : Left) → Agree k tokens next others other
    → Agree k tokens (with_token token passed next) others (with_token token passed other)
one_agrees k token passed [] others next other same = same
one_agrees k token passed (p ∷ tokens) others next other same = λ by. let (rest, is, more) = same by in (rest, is, one_agrees k token passed tokens rest next other more)

begins_kept : (text more : List ℕ) (k : ℕ) → 0 < length text → begins is_regular (take (1 + k) text ++ more) ≡ begins is_regular text
begins_kept [] more k some = absurd (omega (arith, some))
begins_kept (b ∷ text) more k some = rw (one-add k) refl

-- a front is kept where the byte after its piece is
front_kept : (text gap piece : List ℕ) (token : Token) (rest more : List ℕ) (k j : ℕ) → Front text gap piece token rest → k ≡ length gap + length piece + j → 0 < length rest → Front (take (1 + k) text ++ more) gap piece token (take (1 + j) rest ++ more)
front_kept text gap piece token rest more k j front long some = record {
  whole =
      ap (λ t. t ++ more) (ap (take (1 + k)) front.whole ∙ ap (λ n. take n (gap ++ piece ++ rest)) (omega (arith, long, length-append gap piece)) ∙ take-append-add (gap ++ piece) rest (1 + j))
      ∙ append_assoc (gap ++ piece) (take (1 + j) rest) more;
  gap_is = front.gap_is;
  piece_is = front.piece_is;
  longest = λ name. begins_kept rest more j some ∙ front.longest name;
}

agrees : (n k passed : ℕ) (text more : List ℕ) → k < n → k < length text → AgreesTo (passed + k) (left_from passed text) (left_from passed (take (1 + k) text ++ more))
agrees zero k passed text more few within = absurd (omega (arith, few))
agrees (suc n) k passed text more few within =
    let front = take (1 + k) text in
    let other = front ++ more in
    let same_passed = passed_is passed other in
    let long : length front ≡ 1 + k = length-take-le (1 + k) text (omega (arith, within)) in
    elim (next text) [
      | none e ↦ rw (left_none passed text e) (
        same_passed,
        λ by.
            let (gap, piece, same, kind) = none_kept front (drop (1 + k) text) more text (sym (take-append-drop (1 + k) text)) e (omega (arith, by, long)) in
            rw (left_none passed other piece) (
              lt-leb _ _ (omega (arith, by, within)),
              refl,
              lt-leb _ _ (omega (arith, by, gap, long, length-append front more)),
              kind,
              omega (arith, gap, same),
            ),
      )
      | one {gap = gap} {piece = piece} {token = token} {rest = rest} is ↦
          let at = passed + (length gap + length piece) in
          rw (left_front is passed) (
            same_passed,
            λ by.
                let j = k - (length gap + length piece) in
                let sum : k ≡ length gap + length piece + j = omega (arith, by, passed_is at rest) in
                let left : j < length rest = omega (arith, within, front_long is, sum) in
                let kept = front_kept text gap piece token rest more k j is sum (omega (arith, left)) in
                let later = left_from at (take (1 + j) rest ++ more) in
                let end : at + j ≡ passed + k = omega (arith, sum) in
                let both : AgreesTo (passed + k) (left_from at rest) later = subst (λ m. AgreesTo m (left_from at rest) later) end (agrees n j at rest more (omega (arith, few, sum, front_long is)) left) in
                rw (left_front kept passed) (later.tokens, ap (λ m. let p : EndedToken = record { token = token; end = m } in p ∷ later.tokens) both.0, one_agrees (passed + k) token passed (left_from at rest).tokens later.tokens (left_from at rest) later both.1),
          )
    ]

pub decided : (text : List ℕ) → IsDecidedByFronts text
unfolding tokens_of
decided text k more within = let same : 0 + k ≡ k = omega arith in subst (λ m. AgreesTo m (left_from 0 text) (left_from 0 (take (1 + k) text ++ more))) same (agrees (suc k) k 0 text more (omega arith) within)
