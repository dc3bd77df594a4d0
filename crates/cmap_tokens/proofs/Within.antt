-- Where the tokens that are left of a text lie, and where reading goes on after a piece that is none.
use Rattle.std.proofs.Common.{◌≡◌, ℕ, zero, suc, ◌+◌, ◌<◌, ◌≤◌, ◌==◌, false, List, [], ◌∷◌, ◌++◌, length, drop, sym, ap, ◌∙◌, subst, arith, inl, inr, length-drop, length-append}
use Rattle.std.proofs.lemmas.List.{drop_at, drop-drop}
use Rattle.std.proofs.lemmas.Bool.{cases_Bool, leb-false}
use Rattle.std.proofs.lemmas.List.Sums.{prefix_len-le-length}
use Rattle.cmap_tokens.specs.Tokens.{Front, is_hex_body, Token}
use Rattle.cmap_tokens.specs.Scanner.{Cursor, rest_of}
use Rattle.cmap_tokens.specs.TokenReading.{gap_len, malformed_len}
use Rattle.cmap_tokens.specs.TokensLeft.{after_gap, EndedToken, IsWithin, Left, tokens_of}
use Rattle.cmap_tokens.proofs.Fronts.{front_long, left_from, left_front, left_none, next, none, one, passed_is}
use Rattle.cmap_tokens.proofs.Gaps.{measured}

malformed-within : (text : List ℕ) → malformed_len text ≤ length text
malformed-within [] = omega arith
malformed-within (b ∷ text) =
    elim (cases_Bool (b == 60)) [
      | inl is_less ↦ rw is_less (omega (arith, prefix_len-le-length is_hex_body text))
      | inr not_less ↦
          elim (cases_Bool (b == 62)) [
            | inl is_greater ↦ rw (not_less, is_greater) (omega arith)
            | inr not_greater ↦
                elim (cases_Bool (b == 40)) [
                  | inl is_open ↦ rw (not_less, not_greater, is_open) (omega arith)
                  | inr not_open ↦ rw (not_less, not_greater, not_open) (omega arith)
                ]
          ]
    ]

none-within : (len passed : ℕ) (text : List ℕ) → passed + length text ≡ len → (passed ≤ passed + (gap_len false text + malformed_len (after_gap text))) × (passed + (gap_len false text + malformed_len (after_gap text)) ≤ len)
none-within len passed text whole =
    (omega arith, omega (arith, whole, (measured false text).within, malformed-within (after_gap text), length-drop (gap_len false text) text))

within : (n len passed : ℕ) (text : List ℕ) → passed + length text ≡ len → length text < n → IsWithin len (left_from passed text)
within zero len passed text whole long = absurd (omega (arith, long))
within (suc n) len passed text whole long =
    elim (next text) [
      | none e ↦
          let (least, most) = none-within len passed text whole in
          subst (IsWithin len) (sym (left_none passed text e)) (least, most, λ more. omega (arith, leb-false (length text) (gap_len false text) more, whole))
      | one {gap = gap} {piece = piece} {rest = rest} front ↦
          let (size, filled) = front_long front in
          let end = passed + (length gap + length piece) in
          subst (IsWithin len) (sym (left_front front passed)) (omega (arith, passed_is end rest, filled), within n len end rest (omega (arith, whole, size)) (omega (arith, long, size, filled)))
    ]

-- what is left from an offset of a text on lies in it after that offset
pub lie_within : (cursor : Cursor) → cursor.passed ≤ length cursor.source → IsWithin (length cursor.source) (tokens_of cursor)
unfolding tokens_of
lie_within cursor inside = within (suc (length (rest_of cursor))) (length cursor.source) cursor.passed (rest_of cursor) (omega (arith, inside, length-drop cursor.passed cursor.source)) (omega arith)

-- ---- after the next token
abbrev pub at : List ℕ → ℕ → Cursor
at source passed = record { source = source; passed = passed }

same_heads : {A : Type 0} (x y : A) (xs ys : List A) → x ∷ xs ≡ y ∷ ys → x ≡ y
same_heads x y xs ys is = cc

same_tails : {A : Type 0} (x y : A) (xs ys : List A) → x ∷ xs ≡ y ∷ ys → xs ≡ ys
same_tails x y xs ys is = cc

dropped : {text gap piece : List ℕ} {token : Token} {rest : List ℕ} → Front text gap piece token rest → drop (length gap + length piece) text ≡ rest
dropped {text} {gap} {piece} {token} {rest} front =
    let len = length gap + length piece in
    ap (drop len) front.whole ∙ drop_at (gap ++ piece) rest len (length-append gap piece)

-- what is left after a token is what is left from its end on
pub after_token : (cursor : Cursor) (p : EndedToken) (rest : List EndedToken) → cursor.passed ≤ length cursor.source → (tokens_of cursor).tokens ≡ p ∷ rest
    → let here : Left = tokens_of cursor in let later : Left = record { passed = p.end; tokens = rest; ends = here.ends; kind = here.kind; stop = here.stop } in (tokens_of (at cursor.source p.end) ≡ later) × (cursor.passed < p.end) × (p.end ≤ length cursor.source)
unfolding tokens_of
after_token cursor p rest inside is =
    elim (next (rest_of cursor)) [
      | none e ↦ let clash = sym (ap (λ (l : Left). l.tokens) (left_none cursor.passed (rest_of cursor) e)) ∙ is in cc
      | one {gap = gap} {piece = piece} {token = token} {rest = later} front ↦
          let (size, filled) = front_long front in
          let whole = length-drop cursor.passed cursor.source in
          let len = length gap + length piece in
          let end = cursor.passed + len in
          let left = left_front front cursor.passed in
          let first = sym (ap (λ (l : Left). l.tokens) left) ∙ is in
          let ends : end ≡ p.end = sym (passed_is end later) ∙ ap (λ (q : EndedToken). q.end) (same_heads _ p _ rest first) in
          let tokens = same_tails _ p _ rest first in
          let from : drop end cursor.source ≡ later = sym (drop-drop len cursor.passed cursor.source) ∙ dropped front in
          (rw (← ends, from, left, ← tokens) (ap (λ n. let l : Left = record { passed = n; tokens = (left_from end later).tokens; ends = (left_from end later).ends; kind = (left_from end later).kind; stop = (left_from end later).stop } in l) (passed_is end later)), omega (arith, ends, filled), omega (arith, ends, size, whole, inside))
    ]
