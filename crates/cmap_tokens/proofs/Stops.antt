-- The byte that shows that no token comes next: the one that the code measures is the first.
use Rattle.std.proofs.Common.{◌≡◌, ℕ, ◌+◌, ◌-◌, ◌<◌, ◌≤◌, ◌^◌, Bool, true, false, not, ◌==◌, List, [], ◌∷◌, ◌++◌, length, take, drop, Option, Some, None, zero, suc, inl, inr, refl, sym, ap, ◌∙◌, arith, append_assoc, append-nil, length-drop, length-take-le, take-add, subst}
use Rattle.std.specs.Prelude.{IfSome, replicate}
use Rattle.std.specs.List.{AllByRecursion, prefix_len}
use Rattle.std.proofs.lemmas.Bool.{cases_Bool, cases_lt, cases_order}
use Rattle.std.proofs.lemmas.Bool.Decides.{nat_tests}
use Rattle.std.proofs.lemmas.List.{take-append-drop}
use Rattle.std.proofs.lemmas.List.Sums.{prefix_len-le-length}
use Rattle.cmap_tokens.specs.Bytes.{is_white}
use Rattle.cmap_tokens.specs.Gaps.{comment_after, ends_comment, IsGap}
use Rattle.cmap_tokens.specs.Scanner.{Cursor, rest_of}
use Rattle.cmap_tokens.specs.Stops.{AllowsToken, IsStop, StopsAt}
use Rattle.cmap_tokens.specs.Tokens.{Token, String, Name, Inside, HasNoFront, IsToken, after_byte, closes_at_end, is_hex_body, name_or_number}
use Rattle.cmap_tokens.specs.TokenReading.{first_piece, gap_len, malformed_len, one_more, string_of, text_len, opened}
use Rattle.cmap_tokens.specs.TokensLeft.{after_gap}
use Rattle.cmap_tokens.proofs.ByteTests.{all_front, by_byte}
use Rattle.cmap_tokens.proofs.Gaps.{measured}
use Rattle.cmap_tokens.proofs.Decided.{none_kept}
use Rattle.cmap_tokens.proofs.Fronts.{next, no_front, none, one, rest_from, rest_is}

-- ---- a gap goes on with a line feed, which ends a comment, and a digit
gap_front : (in_comment : Bool) (n : ℕ) (text : List ℕ) → n ≤ gap_len in_comment text → (after : Bool) × (comment_after in_comment (take n text) ≡ Some after)
gap_front in_comment zero text few = (in_comment, refl)
gap_front in_comment (suc n) [] few = (in_comment, refl)
gap_front true (suc n) (b ∷ text) few = gap_front (not (ends_comment b)) n text (omega (arith, few))
gap_front false (suc n) (b ∷ text) few =
    elim (cases_Bool (b == 37)) [
      | inl percent ↦ let more = rw percent at few in rw percent (gap_front true n text (omega (arith, more)))
      | inr other ↦
          elim (cases_Bool (is_white b)) [
            | inl white ↦ let more = rw (other, white) at few in rw (other, white) (gap_front false n text (omega (arith, more)))
            | inr solid ↦ let more = rw (other, solid) at few in absurd (omega (arith, more))
          ]
    ]

comment_after-append : (in_comment after : Bool) (gap text : List ℕ) → comment_after in_comment gap ≡ Some after → comment_after in_comment (gap ++ text) ≡ comment_after after text
comment_after-append in_comment after [] text e = let same : in_comment ≡ after = cc in rw same refl
comment_after-append true after (b ∷ gap) text e = comment_after-append (not (ends_comment b)) after gap text e
comment_after-append false after (b ∷ gap) text e =
    elim (cases_Bool (b == 37)) [
      | inl percent ↦ let more = rw percent at e in rw percent (comment_after-append true after gap text more)
      | inr other ↦
          elim (cases_Bool (is_white b)) [
            | inl white ↦ let more = rw (other, white) at e in rw (other, white) (comment_after-append false after gap text more)
            | inr solid ↦ let none = rw (other, solid) at e in cc
          ]
    ]

line_closes : (in_comment : Bool) → comment_after in_comment (10 ∷ []) ≡ Some false
line_closes true = refl
line_closes false = refl

gap_allows : (n : ℕ) (text : List ℕ) → n ≤ gap_len false text → AllowsToken (take n text)
gap_allows n text few =
    let (after, is) = gap_front false n text few in
    let gap = take n text ++ 10 ∷ [] in (
      10 ∷ 48 ∷ [],
      (omega arith, (omega arith, tt)),
      (
        gap,
        48 ∷ [],
        [],
        name_or_number (48 ∷ []),
        record {
          whole = sym (append-nil (gap ++ 48 ∷ []) ∙ append_assoc (take n text) (10 ∷ []) (48 ∷ []));
          gap_is = comment_after-append false after (take n text) (10 ∷ []) is ∙ line_closes after;
          piece_is = inl ((omega arith, refl), refl);
          longest = λ _. refl;
        },
      ),
    )

-- ---- a piece that is cut short goes on with what completes it
abbrev IsBegun : List ℕ → Type 0
IsBegun front = (more : List ℕ) × AllByRecursion (λ b. b < 2 ^ 8) more × (token : Token) × IsToken (front ++ more) token

begun_allows : (gap front : List ℕ) → IsGap gap → IsBegun front → AllowsToken (gap ++ front)
begun_allows gap front closed (more, bytes, token, is) = (
  more,
  bytes,
  (
    gap,
    front ++ more,
    [],
    token,
    record {
      whole = append_assoc gap front more ∙ sym (append-nil (gap ++ (front ++ more)));
      gap_is = closed;
      piece_is = is;
      longest = λ _. refl;
    },
  ),
)

less_begun : (n : ℕ) (text : List ℕ) → n ≤ prefix_len is_hex_body text → IsBegun (60 ∷ take n text)
less_begun n text few = (62 ∷ [], (omega arith, tt), String (60 ∷ take n text ++ 62 ∷ []), inr (inr (inr (inl (take n text, refl, all_front is_hex_body n text few), refl))))

greater_begun : IsBegun (62 ∷ [])
greater_begun = (62 ∷ [], (omega arith, tt), Name false (62 ∷ 62 ∷ []), inr (inr (inl (inr (inr refl), refl))))

-- ---- an open ( .. ) goes on with a byte that is itself, also after a backslash, and as many ) as are open
abbrev inside_at : Bool → ℕ → Inside
inside_at escaped depth = record { escaped = escaped; depth = depth }

after_deep : (escaped : Bool) (depth b : ℕ) → 0 < depth → IfSome (after_byte (inside_at escaped depth) b) (λ next. 0 < next.depth)
after_deep true depth b deep = deep
after_deep false depth b deep = grind (arith, nat_tests, deep)

one_closed : (depth : ℕ) → 0 < depth → after_byte (inside_at false (suc depth)) 41 ≡ Some (inside_at false depth)
one_closed depth deep = grind (arith, nat_tests, deep)

all_closed : (depth : ℕ) → 0 < depth → closes_at_end (Some (inside_at false depth)) (replicate depth 41) ≡ true
all_closed zero deep = absurd (omega (arith, deep))
all_closed (suc zero) deep = refl
all_closed (suc (suc depth)) deep = ap (λ state. closes_at_end state (replicate (suc depth) 41)) (one_closed (suc depth) (omega arith)) ∙ all_closed (suc depth) (omega arith)

closed_after : (escaped : Bool) (depth : ℕ) → 0 < depth → closes_at_end (Some (inside_at escaped depth)) (48 ∷ replicate depth 41) ≡ true
closed_after true depth deep = all_closed depth deep
closed_after false depth deep = all_closed depth deep

all_bytes : (n b : ℕ) → b < 2 ^ 8 → AllByRecursion (λ c. c < 2 ^ 8) (replicate n b)
all_bytes zero b small = tt
all_bytes (suc n) b small = (small, all_bytes n b small)

-- from this state, these bytes and some more close the first parenthesis
abbrev MayClose : Option Inside → List ℕ → Type 0
MayClose state front = (more : List ℕ) × AllByRecursion (λ b. b < 2 ^ 8) more × (closes_at_end state (front ++ more) ≡ true)

at_once : (state : Inside) → 0 < state.depth → MayClose (Some state) []
at_once state deep = (48 ∷ replicate state.depth 41, (omega arith, all_bytes state.depth 41 (omega arith)), closed_after state.escaped state.depth deep)

no_more : (count : Option ℕ) → one_more count ≡ None → count ≡ None
no_more None e = refl
no_more (Some n) e = cc

-- which each front of an open string does
may_close : (state : Option Inside) (n : ℕ) (text : List ℕ) → IfSome state (λ next. 0 < next.depth) → text_len state text ≡ None → MayClose state (take n text)
may_close None n text deep e = cc
may_close (Some state) zero text deep e = at_once state deep
may_close (Some state) (suc n) [] deep e = at_once state deep
may_close (Some state) (suc n) (b ∷ text) deep e = may_close (after_byte state b) n text (after_deep state.escaped state.depth b deep) (no_more _ e)

open_begun : (n : ℕ) (text : List ℕ) → text_len opened text ≡ None → IsBegun (40 ∷ take n text)
open_begun n text e =
    let (more, bytes, closed) = may_close opened n text (omega arith) e in
    (more, bytes, String (40 ∷ take n text ++ more), inr (inr (inr (inr (take n text ++ more, refl, closed), refl))))

-- ---- the byte that is measured
no_string : (text : List ℕ) (count : Option ℕ) → string_of text count ≡ None → count ≡ None
no_string text None e = refl
no_string text (Some n) e = cc

piece_begun : (n : ℕ) (text : List ℕ) → first_piece text ≡ None → 0 < n → n ≤ malformed_len text → IsBegun (take n text)
unfolding first_piece
piece_begun n [] = λ e some few. absurd (omega (arith, some, few))
piece_begun zero (b ∷ text) = λ e some few. absurd (omega (arith, some))
piece_begun (suc n) (b ∷ text) =
    let P : ℕ → Type 0 = λ c. first_piece (c ∷ text) ≡ None → 0 < suc n → suc n ≤ malformed_len (c ∷ text) → IsBegun (c ∷ take n text) in
    by_byte b 60 P (λ e some few. less_begun n text (omega (arith, few))) (λ not_less.
    by_byte b 62 P (λ e some few. let none : n ≡ 0 = omega (arith, few) in rw none greater_begun) (λ not_greater.
    by_byte b 40 P (λ e some few. open_begun n text (no_more _ (no_string _ _ e))) (λ not_open e some few.
    let past = rw (not_less, not_greater, not_open) at few in absurd (omega (arith, past)))))

malformed_len-le : (text : List ℕ) → malformed_len text ≤ length text
malformed_len-le [] = omega arith
malformed_len-le (b ∷ text) = grind (arith, nat_tests, prefix_len-le-length is_hex_body text)

begins_allow : (n : ℕ) (text : List ℕ) → first_piece (after_gap text) ≡ None → n ≤ gap_len false text + malformed_len (after_gap text) → AllowsToken (take n text)
begins_allow n text e few =
    let gap = gap_len false text in
    elim (cases_lt gap n) [
      | inr within ↦ gap_allows n text within
      | inl past ↦
          let more = n - gap in
          let before : gap < length text = omega (arith, past, few, malformed_len-le (after_gap text), length-drop gap text) in
          let split : take n text ≡ take gap text ++ take more (after_gap text) = ap (λ k. take k text) (omega (arith, past)) ∙ take-add gap more text in
          subst AllowsToken (sym split) (begun_allows (take gap text) (take more (after_gap text)) ((measured false text).gap before) (piece_begun more (after_gap text) e (omega (arith, past)) (omega (arith, few))))
    ]

is_stop : (text : List ℕ) → first_piece (after_gap text) ≡ None → IsStop text (gap_len false text + malformed_len (after_gap text))
is_stop text e =
    let stop = gap_len false text + malformed_len (after_gap text) in record {
      within = omega (arith, (measured false text).within, malformed_len-le (after_gap text), length-drop (gap_len false text) text);
      excludes = λ before more gap piece rest token front.
          let long : length (take (1 + stop) text) ≡ 1 + stop = length-take-le (1 + stop) text (omega (arith, before)) in
          no_front front (none_kept (take (1 + stop) text) (drop (1 + stop) text) more text (sym (take-append-drop (1 + stop) text)) e (omega (arith, long))).1;
      first = λ n few. begins_allow n text e few;
    }

-- n bytes of gap are passed, and then m that show that no token comes
pub stops_at : (cursor : Cursor) (text : List ℕ) (n m : ℕ) → text ≡ rest_of cursor → n ≡ gap_len false text → m ≡ malformed_len (rest_from text n) → HasNoFront (rest_of cursor) → StopsAt cursor (cursor.passed + n + m)
stops_at cursor text n m is gap len empty =
    elim (next (rest_of cursor)) [
      | one front ↦ absurd (empty _ _ _ _ front)
      | none e ↦ (_, omega (arith, gap, len, ap (gap_len false) is, ap malformed_len (rest_is text n gap), ap (λ t. malformed_len (after_gap t)) is), is_stop (rest_of cursor) e)
    ]

-- ---- there is one
none_earlier : (text : List ℕ) (n m : ℕ) → IsStop text n → IsStop text m → n < m → ⊥
none_earlier text n m is other less =
    let (more, bytes, front) = other.first (1 + n) (omega (arith, less)) in
    is.excludes (omega (arith, less, other.within)) more front.0 front.1 front.2 front.3 front.4

pub one_stop : (cursor : Cursor) (offset other : ℕ) → StopsAt cursor offset → StopsAt cursor other → other ≡ offset
one_stop cursor offset other (n, at, is) (m, other_at, other_is) =
    elim (cases_order n m) [
      | inl same ↦ omega (arith, same, at, other_at)
      | inr (inl less) ↦ absurd (none_earlier (rest_of cursor) n m is other_is less)
      | inr (inr more) ↦ absurd (none_earlier (rest_of cursor) m n other_is is more)
    ]
