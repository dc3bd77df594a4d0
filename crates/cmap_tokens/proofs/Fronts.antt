-- The front of a text and the tokens that are left of it: what the code reads is what the relations say, both ways.
use Rattle.std.proofs.Common.{◌≡◌, ℕ, ◌+◌, ◌-◌, ◌<◌, ◌≤◌, zero, suc, false, true, List, [], ◌∷◌, ◌++◌, length, take, drop, Option, None, Some, inl, inr, refl, sym, ap, ◌∙◌, subst, arith, append_assoc, length-append, length-drop, length-take-le}
use Rattle.std.specs.Prelude.{IfSome, map}
use Rattle.std.proofs.lemmas.Bool.{cases_lt, le-leb, lt-leb, leb-true}
use Rattle.std.proofs.lemmas.List.{take_at, drop_at, drop_all, take-append-drop, take_rest, drop-drop}
use Rattle.cmap_tokens.specs.Gaps.{IsBlank}
use Rattle.cmap_tokens.specs.Tokens.{Token, Front, IsMalformed, Tokens}
use Rattle.cmap_tokens.specs.Malformed.{malformed_kind}
use Rattle.cmap_tokens.specs.Scanner.{OnlyFront, Cursor, FirstToken, ReadsToken, rest_of, past}
use Rattle.cmap_tokens.specs.TokenReading.{gap_len, first_piece, malformed_len}
use Rattle.cmap_tokens.specs.TokensLeft.{after_gap, HasTokens, Left, LeavesAfter, LeavesMalformed, LeavesNone, no_token, start_of, with_token, tokens_within, tokens_of}
use Rattle.cmap_tokens.proofs.Gaps.{measured, gap_len-append, gap_len-blank}
use Rattle.cmap_tokens.proofs.TokenPieces.{IsFirst, first_is, is_read}

-- a front is read as it is
record ReadsFront (text gap piece : List ℕ) (token : Token) (rest : List ℕ) : Type 0 where
  first : first_piece (after_gap text) ≡ Some (token, length piece)
  long : length gap ≡ gap_len false text
  gap_is : gap ≡ take (gap_len false text) text
  piece_is : piece ≡ take (length piece) (after_gap text)
  rest_is : rest ≡ drop (length piece) (after_gap text)
  filled : 0 < length piece

module _ {text gap piece : List ℕ} {token : Token} {rest : List ℕ} (front : Front text gap piece token rest) where
  reads_front : ReadsFront text gap piece token rest
  reads_front =
      let read = is_read piece token rest front.piece_is front.longest in
      let whole : text ≡ gap ++ (piece ++ rest) = front.whole ∙ append_assoc gap piece rest in
      let long : length gap ≡ gap_len false text = sym (ap (gap_len false) whole ∙ gap_len-append false false gap (piece ++ rest) front.gap_is ∙ omega (arith, read.no_gap)) in
      let after : after_gap text ≡ piece ++ rest = ap (drop (gap_len false text)) whole ∙ drop_at gap (piece ++ rest) (gap_len false text) long in
      record {
        first = ap first_piece after ∙ read.first;
        long = long;
        gap_is = sym (ap (take (gap_len false text)) whole ∙ take_at gap (piece ++ rest) (gap_len false text) long);
        piece_is = sym (ap (take (length piece)) after ∙ take_at piece rest (length piece) refl);
        rest_is = sym (ap (drop (length piece)) after ∙ drop_at piece rest (length piece) refl);
        filled = read.filled;
      }

  pub front_long : (length gap + length piece + length rest ≡ length text) × (0 < length piece)
  front_long = (omega (arith, ap length front.whole, length-append {A = ℕ}), reads_front.filled)

one_first : (o : Option (Token × ℕ)) (first other : Token × ℕ) → o ≡ Some first → o ≡ Some other → other ≡ first
one_first o first other e f = cc

module _ {text gap piece : List ℕ} {token : Token} {rest : List ℕ} (front : Front text gap piece token rest) where
  -- so there is one
  pub front_only : OnlyFront text gap piece token rest
  front_only = record {
    front = front;
    only = λ other_gap other_piece other_rest other is.
        let read = reads_front front in
        let found = reads_front is in
        let same = one_first _ (token, length piece) (other, length other_piece) read.first found.first in (
          found.gap_is ∙ sym read.gap_is,
          found.piece_is ∙ ap (λ first. take first.1 (after_gap text)) same ∙ sym read.piece_is,
          ap (λ first. first.0) same,
          found.rest_is ∙ ap (λ first. drop first.1 (after_gap text)) same ∙ sym read.rest_is,
        );
  }

  pub no_front : first_piece (after_gap text) ≡ None → ⊥
  no_front e = let clash = sym (reads_front front).first ∙ e in cc

  pub front_not_blank : IsBlank text → ⊥
  front_not_blank blank = omega (arith, front_long front, (reads_front front).long, gap_len-blank text blank)

-- what is read is a front
front_from : (text : List ℕ) (first : Token × ℕ) → first_piece (after_gap text) ≡ Some first → Front text (take (gap_len false text) text) (take first.1 (after_gap text)) first.0 (drop first.1 (after_gap text))
unfolding first_piece
front_from text first e =
    let is : IsFirst (after_gap text) first = subst (λ o. IfSome o (IsFirst (after_gap text))) e (first_is (after_gap text)) in
    record {
      whole = sym (append_assoc (take (gap_len false text) text) _ _ ∙ ap (λ r. take (gap_len false text) text ++ r) (take-append-drop first.1 (after_gap text)) ∙ take-append-drop (gap_len false text) text);
      gap_is = elim (cases_lt (gap_len false text) (length text)) [
        | inl before ↦ (measured false text).gap before
        | inr past ↦ let none : None ≡ Some first = ap first_piece (sym (drop_all (gap_len false text) text past)) ∙ e in cc
      ];
      piece_is = is.is_token;
      longest = is.longest;
    }

-- what stands at the front of a text: a token, or none
pub data Next (text : List ℕ) : Type 0 where
  none : first_piece (after_gap text) ≡ None → Next text
  one : {gap piece : List ℕ} {token : Token} {rest : List ℕ} → Front text gap piece token rest → Next text

next_by : (text : List ℕ) (o : Option (Token × ℕ)) → first_piece (after_gap text) ≡ o → Next text
next_by text None e = none e
next_by text (Some first) e = one (front_from text first e)

pub next : (text : List ℕ) → Next text
next text = next_by text (first_piece (after_gap text)) refl

-- ---- the outcomes of reading a first token: n bytes of gap are passed, and `&text[n..]` stands after them
abbrev pub rest_from : List ℕ → ℕ → List ℕ
rest_from text n = take (length text - n) (drop n text)

pub rest_is : (text : List ℕ) (n : ℕ) → n ≡ gap_len false text → rest_from text n ≡ after_gap text
rest_is text n gap = take_rest text n ∙ ap (λ k. drop k text) gap

pub first_token_is : (text : List ℕ) (n m : ℕ) (token : Token) → n ≡ gap_len false text → m ≤ length (rest_from text n) → Some (token, m) ≡ first_piece (rest_from text n) → FirstToken text token (n + m)
first_token_is text n m token gap within read =
    let rest = rest_is text n gap in
    let front = front_from text (token, m) (sym (read ∙ ap first_piece rest)) in
    let long = length-take-le m (after_gap text) (omega (arith, within, ap length rest)) in
    let same_rest : drop m (after_gap text) ≡ drop (n + m) text = drop-drop m (gap_len false text) text ∙ ap (λ k. drop (k + m) text) (sym gap) in
    (_, _, front_only (subst (Front text _ _ token) same_rest front), omega (arith, gap, long, (reads_front front).long))

pub blank_is : (text : List ℕ) (n : ℕ) → n ≡ gap_len false text → length (rest_from text n) ≡ 0 → IsBlank text
blank_is text n gap empty = (measured false text).blank (omega (arith, empty, ap length (rest_is text n gap), length-drop (gap_len false text) text))

pub malformed_is : (text : List ℕ) (n : ℕ) → n ≡ gap_len false text → 0 < length (rest_from text n) → None ≡ first_piece (rest_from text n) → IsMalformed text
malformed_is text n gap more e =
    let rest = rest_is text n gap in (
      λ blank. omega (arith, more, ap length rest, length-drop (gap_len false text) text, gap_len-blank text blank),
      λ _ _ _ _ front. no_front front (sym (e ∙ ap first_piece rest)),
    )

-- what a scanner reads is what its cursor has left
pub left_is : (text : List ℕ) (passed : ℕ) (cursor : Cursor) → record { source = text; passed = passed } ≡ cursor → take (length text - passed) (drop passed text) ≡ rest_of cursor
left_is text passed cursor same = take_rest text passed ∙ ap rest_of same

-- the token of what is left
pub read_token : (here old : Cursor) (text : List ℕ) (len : ℕ) (token : Token) → here ≡ old → text ≡ rest_of here → FirstToken text token len → ReadsToken old token (past len here)
read_token here old text len token same is first =
    let (gap, piece, only, long) = subst (λ text. FirstToken text token len) is first in
    subst (λ cursor. ReadsToken cursor token (past len here)) same (gap, piece, subst (OnlyFront (rest_of here) gap piece token) (drop-drop len here.passed here.source) only, ap (λ n. past n here) long)

-- ---- the tokens that are left of a text are those of the relations on texts
-- what is left of a text, from an offset on
abbrev pub left_from : ℕ → List ℕ → Left
left_from passed text = tokens_within (length text) passed text

stops : (n passed : ℕ) (text : List ℕ) → first_piece (after_gap text) ≡ None → tokens_within n passed text ≡ no_token passed text
unfolding tokens_within
stops zero passed text e = refl
stops (suc n) passed text e = rw (e, tokens_within) refl

steps : {text gap piece : List ℕ} {token : Token} {rest : List ℕ} → Front text gap piece token rest → (n passed : ℕ) → tokens_within (suc n) passed text ≡ with_token token passed (tokens_within n (passed + (length gap + length piece)) rest)
unfolding tokens_within
steps front n passed = let read = reads_front front in rw (read.long, read.rest_is) (rw (read.first, tokens_within) refl)

enough : (n m passed : ℕ) (text : List ℕ) → length text ≤ n → length text ≤ m → tokens_within n passed text ≡ tokens_within m passed text
enough zero m passed text a b =
    elim (next text) [
      | none e ↦ stops zero passed text e ∙ sym (stops m passed text e)
      | one front ↦ absurd (omega (arith, a, front_long front))
    ]
enough (suc n) zero passed text a b =
    elim (next text) [
      | none e ↦ stops (suc n) passed text e ∙ sym (stops zero passed text e)
      | one front ↦ absurd (omega (arith, b, front_long front))
    ]
enough (suc n) (suc m) passed text a b =
    elim (next text) [
      | none e ↦ stops (suc n) passed text e ∙ sym (stops (suc m) passed text e)
      | one {token = token} {rest = rest} front ↦
          let fewer : length rest < length text = omega (arith, front_long front) in
          steps front n passed ∙ ap (with_token token passed) (enough n m _ rest (omega (arith, a, fewer)) (omega (arith, b, fewer))) ∙ sym (steps front m passed)
    ]

pub left_none : (passed : ℕ) (text : List ℕ) → first_piece (after_gap text) ≡ None → left_from passed text ≡ no_token passed text
left_none passed text e = stops (length text) passed text e

module _ {text gap piece : List ℕ} {token : Token} {rest : List ℕ} (front : Front text gap piece token rest) where
  pub left_front : (passed : ℕ) → left_from passed text ≡ with_token token passed (left_from (passed + (length gap + length piece)) rest)
  left_front passed =
      enough (length text) (suc (length text)) passed text (omega arith) (omega arith)
      ∙ steps front (length text) passed
      ∙ ap (with_token token passed) (enough _ _ _ rest (omega (arith, front_long front)) (omega arith))

pub passed_is : (passed : ℕ) (text : List ℕ) → (left_from passed text).passed ≡ passed
passed_is passed text =
    elim (next text) [
      | none e ↦ ap (λ l. l.passed) (left_none passed text e)
      | one front ↦ ap (λ l. l.passed) (left_front front passed)
    ]

left_blank : (passed : ℕ) (text : List ℕ) → IsBlank text → ((left_from passed text).tokens ≡ []) × ((left_from passed text).ends ≡ true)
left_blank passed text blank =
    elim (next text) [
      | none e ↦ rw (left_none passed text e) (refl, le-leb _ _ (omega (arith, gap_len-blank text blank)))
      | one front ↦ absurd (front_not_blank front blank)
    ]

-- all tokens of a text are those that are left of it, and it ends
are_left : (tokens : List Token) (passed : ℕ) (text : List ℕ) → Tokens text tokens → (map (λ p. p.token) (left_from passed text).tokens ≡ tokens) × ((left_from passed text).ends ≡ true)
are_left [] passed text blank = let (empty, ends) = left_blank passed text blank in (rw empty refl, ends)
are_left (token ∷ tokens) passed text (gap, piece, rest, front, more) =
    let (same, ends) = are_left tokens (passed + (length gap + length piece)) rest more in
    rw (left_front front passed) (ap (λ others. token ∷ others) same, ends)

-- and those that are left, where it ends, are all
left_are : (n passed : ℕ) (text : List ℕ) → length text < n → (left_from passed text).ends ≡ true → Tokens text (map (λ p. p.token) (left_from passed text).tokens)
left_are zero passed text few = absurd (omega (arith, few))
left_are (suc n) passed text few =
    elim (next text) [
      | none e ↦ rw (left_none passed text e) (λ ends. (measured false text).blank (leb-true _ _ ends))
      | one {rest = rest} front ↦ rw (left_front front passed) (λ ends. (_, _, rest, front, left_are n _ rest (omega (arith, few, front_long front)) ends))
    ]

pub has_tokens : (text : List ℕ) → HasTokens text (tokens_of (start_of text))
unfolding tokens_of
has_tokens text tokens = (are_left tokens 0 text, λ both. subst (Tokens text) both.0 (left_are (suc (length text)) 0 text (omega arith) both.1))

-- ---- what the reading of a token says
pub leaves_blank : (cursor : Cursor) → IsBlank (rest_of cursor) → LeavesNone true cursor
unfolding tokens_of
leaves_blank cursor blank = left_blank cursor.passed (rest_of cursor) blank

pub leaves_malformed : (cursor : Cursor) → IsMalformed (rest_of cursor) → LeavesMalformed (malformed_kind (after_gap (rest_of cursor))) cursor
unfolding tokens_of
leaves_malformed cursor malformed =
    elim (next (rest_of cursor)) [
      | none e ↦
          elim (cases_lt (gap_len false (rest_of cursor)) (length (rest_of cursor))) [
            | inl less ↦ rw (left_none cursor.passed (rest_of cursor) e) ((refl, lt-leb _ _ less), refl)
            | inr all ↦ absurd (malformed.0 ((measured false (rest_of cursor)).blank all))
          ]
      | one front ↦ absurd (malformed.1 _ _ _ _ front)
    ]

-- what is left after the first token of what was left, which is neither blank nor malformed
pub left_after : (old new : Cursor) (token : Token) → ReadsToken old token new → LeavesAfter token old new
unfolding tokens_of
left_after old new token (gap, piece, only, is) =
    left_front only.front old.passed ∙ ap (λ n. with_token token old.passed (left_from n (rest_of new))) (sym (ap (λ p. p.passed) is))

-- one token after another
pub two_read : (here old : Cursor) (text : List ℕ) (n len : ℕ) (token other : Token) → here ≡ old → text ≡ rest_of here → FirstToken text token n → FirstToken (drop n text) other len
    → (between : Cursor) × ReadsToken old token between × LeavesAfter token old between × ReadsToken between other (past (n + len) here) × LeavesAfter other between (past (n + len) here)
two_read here old text n len token other same is first second =
    let read = read_token here old text n token same is first in
    let next = read_token (past n here) (past n here) (drop n text) len other refl (ap (drop n) is ∙ drop-drop n here.passed here.source) second in
    let place : past len (past n here) ≡ past (n + len) here = ap (λ k. record { source = here.source; passed = k }) (omega arith) in
    let both = subst (ReadsToken (past n here) other) place next in
    (past n here, read, left_after old (past n here) token read, both, left_after (past n here) (past (n + len) here) other both)

-- and one more
pub three_read : (here old : Cursor) (text : List ℕ) (n m len : ℕ) (token other last : Token) → here ≡ old → text ≡ rest_of here → FirstToken text token n → FirstToken (drop n text) other m → FirstToken (drop m (drop n text)) last len
    → (first second : Cursor) × ReadsToken old token first × LeavesAfter token old first × ReadsToken first other second × LeavesAfter other first second × ReadsToken second last (past (n + m + len) here) × LeavesAfter last second (past (n + m + len) here)
three_read here old text n m len token other last same is first second third =
    let read = read_token here old text n token same is first in
    let rest = ap (drop n) is ∙ drop-drop n here.passed here.source in
    let (between, next, left, then, after) = two_read (past n here) (past n here) (drop n text) m len other last refl rest second third in
    let place : past (m + len) (past n here) ≡ past (n + m + len) here = ap (λ k. record { source = here.source; passed = k }) (omega arith) in
    let end = subst (λ new. ReadsToken between last new × LeavesAfter last between new) place (then, after) in
    (past n here, between, read, left_after old (past n here) token read, next, left, end.0, end.1)

pub passed_of : (cursor : Cursor) → (tokens_of cursor).passed ≡ cursor.passed
unfolding tokens_of
passed_of cursor = passed_is cursor.passed (rest_of cursor)

-- n bytes of gap are passed, and then m that show that no token comes
pub stop_is : (cursor : Cursor) (text : List ℕ) (n m : ℕ) → text ≡ rest_of cursor → n ≡ gap_len false text → m ≡ malformed_len (rest_from text n) → (tokens_of cursor).tokens ≡ [] → cursor.passed + n + m ≡ (tokens_of cursor).stop
unfolding tokens_of
stop_is cursor text n m is gap len empty =
    elim (next (rest_of cursor)) [
      | none e ↦ sym (ap (λ l. l.stop) (left_none cursor.passed (rest_of cursor) e) ∙ omega (arith, gap, len, ap (gap_len false) is, ap malformed_len (rest_is text n gap), ap (λ t. malformed_len (after_gap t)) is))
      | one {token = token} front ↦ let clash : token ∷ _ ≡ [] = sym (ap (λ l. map (λ p. p.token) l.tokens) (left_front front cursor.passed)) ∙ ap (map (λ p. p.token)) empty in cc
    ]
