-- Ranges that say the same as a list of declarations.
use Rattle.std.proofs.Common.{◌≡◌, ℕ, zero, suc, ◌<◌, ◌⊎◌, inl, inr, Bool, true, false, true≢false, List, [], ◌∷◌, ◌++◌, length, get_or, map, Some, None, refl, ap, ◌∙◌, sym, subst, arith}
use Rattle.std.specs.Prelude.{Option, IsSome, option_map, option_and_then, if◌then◌else◌}
use Rattle.std.specs.List.{All, Any, Contains, slice_get}
use Rattle.std.specs.List.Sorted.{IsPermutation}
use Rattle.std.specs.Option.{option_or}
use Rattle.std.proofs.lemmas.Bool.{cases_Bool}
use Rattle.std.proofs.lemmas.Option.{none-some, same_Some, slice_get-get_or}
use Rattle.std.proofs.lemmas.List.{append_assoc, append-nil, length-map}
use Rattle.std.proofs.lemmas.List.Elements.{All-append, All-cons, All-head, All-nil, All-tail, Contains-append_cases, Contains-append_left, Contains-append_right}
use Rattle.std.proofs.lemmas.List.Sorted.{All-permutation, Contains-permutation}
use Rattle.cmap_runs.specs.Ranges.{Span, contains, last_index}
use Rattle.cmap_binary_writer.specs.Pieces.{AllSayAs, ArePieces, Cover, Has, PushesPieces, SayTheSame, SaysAs, StandFor, told}

-- ---- an element of which something holds
module _ {X : Type 0} (P : X → Type 0) where
  pub Any-head : (x : X) (xs : List X) → P x → Any P (x ∷ xs)
  Any-head x xs p = (0, x, omega arith, refl, p)

  pub Any-through : (xs ys : List X) → ((x : X) → Contains xs x → Contains ys x) → Any P xs → Any P ys
  Any-through xs ys through (k, x, within, is, p) = let (j, there, same) = through x (k, within, is) in (j, x, there, same, p)

  pub Any-left : (xs ys : List X) → Any P xs → Any P (xs ++ ys)
  Any-left xs ys = Any-through xs (xs ++ ys) (λ x. Contains-append_left xs ys x)

  pub Any-right : (xs ys : List X) → Any P ys → Any P (xs ++ ys)
  Any-right xs ys = Any-through ys (xs ++ ys) (λ x. Contains-append_right xs ys x)

  pub Any-cases : (xs ys : List X) → Any P (xs ++ ys) → Any P xs ⊎ Any P ys
  Any-cases xs ys (k, x, within, is, p) = elim (Contains-append_cases xs ys x (k, within, is)) [
    | inl (j, there, same) ↦ inl (j, x, there, same, p)
    | inr (j, there, same) ↦ inr (j, x, there, same, p)
  ]

  pub Any-nil : Any P [] → ⊥
  Any-nil (k, x, within, is, p) = omega (arith, within)

  pub Any-one : (x : X) → Any P (x ∷ []) → P x
  Any-one x (zero, y, within, is, p) = subst P (sym is) p
  Any-one x (suc k, y, within, is, p) = absurd (omega (arith, within))

  pub Any-permutation : (xs ys : List X) → IsPermutation xs ys → Any P xs → Any P ys
  Any-permutation xs ys same = Any-through xs ys (λ x. Contains-permutation xs ys x same)

-- ---- what holds of all, in a part
pub All-front : {X : Type 0} (P : X → Type 0) (xs ys : List X) → All P (xs ++ ys) → All P xs
All-front P [] ys all = All-nil P
All-front P (x ∷ xs) ys all = All-cons P x xs (All-head P x (xs ++ ys) all) (All-front P xs ys (All-tail P x (xs ++ ys) all))

pub All-back : {X : Type 0} (P : X → Type 0) (xs ys : List X) → All P (xs ++ ys) → All P ys
All-back P [] ys all = all
All-back P (x ∷ xs) ys all = All-back P xs ys (All-tail P x (xs ++ ys) all)

-- ---- the last of a list that begins with a declaration
within_more : (rest : List Span) (index : ℕ) (o : Option ℕ) (here : Bool) → ((i : ℕ) → o ≡ Some i → i < length rest) → option_or (option_map suc o) (if here then Some 0 else None) ≡ Some index → index < suc (length rest)
within_more rest index None true within is = omega (arith, same_Some 0 index is)
within_more rest index None false within is = absurd (none-some index is)
within_more rest index (Some i) here within is = omega (arith, within i refl, same_Some (suc i) index is)

pub last_within : (spans : List Span) (code index : ℕ) → last_index spans code ≡ Some index → index < length spans
last_within [] code index is = absurd (none-some index is)
last_within (span ∷ rest) code index is = within_more rest index (last_index rest code) (contains span code) (λ i. last_within rest code i) is

contains_more : (span : Span) (rest : List Span) (code index : ℕ) (d : Span) (o : Option ℕ) (here : Bool) → contains span code ≡ here → ((i : ℕ) → o ≡ Some i → contains (get_or rest i d) code ≡ true) → option_or (option_map suc o) (if here then Some 0 else None) ≡ Some index → contains (get_or (span ∷ rest) index d) code ≡ true
contains_more span rest code index d None true at later is = subst (λ i. contains (get_or (span ∷ rest) i d) code ≡ true) (same_Some 0 index is) at
contains_more span rest code index d None false at later is = absurd (none-some index is)
contains_more span rest code index d (Some i) here at later is = subst (λ i. contains (get_or (span ∷ rest) i d) code ≡ true) (same_Some (suc i) index is) (later i refl)

-- it contains the code
pub last_contains : (spans : List Span) (code index : ℕ) (d : Span) → last_index spans code ≡ Some index → contains (get_or spans index d) code ≡ true
last_contains [] code index d is = absurd (none-some index is)
last_contains (span ∷ rest) code index d is = contains_more span rest code index d (last_index rest code) (contains span code) refl (λ i. last_contains rest code i d) is

option_or-none : {A : Type 0} (o : Option A) → option_or o None ≡ o
option_or-none None = refl
option_or-none (Some x) = refl

module _ {E X : Type 0} (span_of : E → Span) (at : E → ℕ → X) where
  step : (e : E) (es : List E) (code : ℕ) (o : Option ℕ) (here : Bool) → ((index : ℕ) → o ≡ Some index → index < length es) → option_map (λ e. at e code) (option_and_then (slice_get (e ∷ es)) (option_or (option_map suc o) (if here then Some 0 else None)))
      ≡ option_or (option_map (λ e. at e code) (option_and_then (slice_get es) o)) (if here then Some (at e code) else None)
  step e es code None true within = refl
  step e es code None false within = refl
  step e es code (Some index) here within =
      let there : slice_get es index ≡ Some (get_or es index e) = slice_get-get_or es index e (within index refl) in
      ap (option_map (λ (e : E). at e code)) there ∙ sym (ap (λ (o : Option E). option_or (option_map (λ (e : E). at e code) o) (if here then Some (at e code) else None)) there)

  told-cons : (e : E) (es : List E) (code : ℕ) → told span_of at (e ∷ es) code ≡ option_or (told span_of at es code) (if contains (span_of e) code then Some (at e code) else None)
  told-cons e es code = step e es code (last_index (map span_of es) code) (contains (span_of e) code) (λ index is. rw (length-map es span_of) at (last_within (map span_of es) code index is))

  -- what the last one says
  pub told_at : (es : List E) (code index : ℕ) (d : E) → last_index (map span_of es) code ≡ Some index → told span_of at es code ≡ Some (at (get_or es index d) code)
  told_at es code index d is =
      let within : index < length es = rw (length-map es span_of) at (last_within (map span_of es) code index is) in
      ap (λ (o : Option ℕ). option_map (λ (e : E). at e code) (option_and_then (slice_get es) o)) is ∙ ap (option_map (λ (e : E). at e code)) (slice_get-get_or es index d within)

  pub told_none : (es : List E) (code : ℕ) → last_index (map span_of es) code ≡ None → told span_of at es code ≡ None
  told_none es code is = ap (λ (o : Option ℕ). option_map (λ (e : E). at e code) (option_and_then (slice_get es) o)) is

  -- ---- the ranges say of a code what the list says, or none has it
  right_or_none : (es pieces : List E) (code : ℕ) → AllSayAs span_of at es pieces → (told span_of at pieces code ≡ told span_of at es code) ⊎ ((told span_of at pieces code ≡ None) × (Cover span_of pieces code → ⊥))
  right_or_none es [] code h = inr (refl, Any-nil (λ p. Has span_of p code))
  right_or_none es (p ∷ ps) code h =
      let P = SaysAs span_of at es in
      let later = right_or_none es ps code (All-tail P p ps h) in
      elim (cases_Bool (contains (span_of p) code)) [
        | inl has ↦
            let says = All-head P p ps h code has in
            let first : told span_of at (p ∷ ps) code ≡ option_or (told span_of at ps code) (Some (at p code)) = told-cons p ps code ∙ ap (λ b. option_or (told span_of at ps code) (if b then Some (at p code) else None)) has in
            elim later [
              | inl same ↦ inl (first ∙ ap (λ o. option_or o (Some (at p code))) (same ∙ says) ∙ sym says)
              | inr none ↦ inl (first ∙ ap (λ o. option_or o (Some (at p code))) none.0 ∙ sym says)
            ]
        | inr not ↦
            let first : told span_of at (p ∷ ps) code ≡ told span_of at ps code = told-cons p ps code ∙ ap (λ b. option_or (told span_of at ps code) (if b then Some (at p code) else None)) not ∙ option_or-none (told span_of at ps code) in
            elim later [
              | inl same ↦ inl (first ∙ same)
              | inr none ↦
                  inr (
                    first ∙ none.0,
                    λ any. elim (Any-cases (λ p. Has span_of p code) (p ∷ []) ps any) [
                      | inl here ↦ true≢false (sym (Any-one (λ p. Has span_of p code) p here) ∙ not)
                      | inr there ↦ none.1 there
                    ],
                  )
            ]
      ]

  pub same_told : (es pieces : List E) → SayTheSame span_of at es pieces → (code : ℕ) → told span_of at pieces code ≡ told span_of at es code
  same_told es pieces h code = elim (right_or_none es pieces code h.0) [
    | inl same ↦ same
    | inr none ↦ all_or_none (told span_of at es code) (λ some. none.1 (h.1 code some)) none.0
  ]
    where
      all_or_none : (o : Option X) → (IsSome o → ⊥) → told span_of at pieces code ≡ None → told span_of at pieces code ≡ o
      all_or_none None h none = none
      all_or_none (Some x) h none = absurd (h refl)

  -- in another order
  pub same_permuted : (es pieces others : List E) → IsPermutation pieces others → SayTheSame span_of at es pieces → SayTheSame span_of at es others
  same_permuted es pieces others same h = (All-permutation (SaysAs span_of at es) pieces others same h.0, λ code some. Any-permutation (λ p. Has span_of p code) pieces others same (h.1 code some))

  -- ---- one range in pieces
  pub stands_alone : (e : E) → StandFor span_of at e (e ∷ [])
  stands_alone e = (λ es says. All-cons (SaysAs span_of at es) e [] says (All-nil (SaysAs span_of at es)), λ code has. Any-head (λ p. Has span_of p code) e [] has)

  -- a piece, and what is left in pieces
  pub stands_more : (e first left : E) (pieces : List E) → ((es : List E) → SaysAs span_of at es e → SaysAs span_of at es first × SaysAs span_of at es left) → ((code : ℕ) → Has span_of e code → Has span_of first code ⊎ Has span_of left code) → StandFor span_of at left pieces → StandFor span_of at e (first ∷ pieces)
  stands_more e first left pieces says has h = (
    λ es whole. let both = says es whole in All-cons (SaysAs span_of at es) first pieces both.0 (h.0 es both.1),
    λ code there. elim (has code there) [
      | inl here ↦ Any-head (λ p. Has span_of p code) first pieces here
      | inr later ↦ Any-right (λ p. Has span_of p code) (first ∷ []) pieces (h.1 code later)
    ],
  )

  -- pieces of a range so far, of which this is left
  pub record PiecesTo (fits : E → Type 0) (e left : E) (old new : List E) : Type 0 where
    pub pieces : List E
    pub new_is : new ≡ old ++ pieces
    pub fit : All fits pieces
    pub more : (others : List E) → StandFor span_of at left others → StandFor span_of at e (pieces ++ others)

  pub to_start : (fits : E → Type 0) (e : E) (old : List E) → PiecesTo fits e e old old
  to_start fits e old = record { pieces = []; new_is = sym (append-nil old); fit = All-nil fits; more = λ others h. h }

  pub to_more : (fits : E → Type 0) (e left first later : E) (old now new : List E) → PiecesTo fits e left old now → new ≡ now ++ first ∷ [] → fits first
      → ((es : List E) → SaysAs span_of at es left → SaysAs span_of at es first × SaysAs span_of at es later) → ((code : ℕ) → Has span_of left code → Has span_of first code ⊎ Has span_of later code) → PiecesTo fits e later old new
  to_more fits e left first later old now new h is fit says has = record {
    pieces = h.pieces ++ first ∷ [];
    new_is = is ∙ ap (λ es. es ++ first ∷ []) h.new_is ∙ append_assoc old h.pieces (first ∷ []);
    fit = All-append fits h.pieces (first ∷ []) h.fit (All-cons fits first [] fit (All-nil fits));
    more = λ others stand. subst (StandFor span_of at e) (sym (append_assoc h.pieces (first ∷ []) others)) (h.more (first ∷ others) (stands_more left first later others says has stand));
  }

  -- all of it
  pub to_end : (fits : E → Type 0) (e left last : E) (old now new : List E) → PiecesTo fits e left old now → new ≡ now ++ last ∷ [] → fits last
      → ((es : List E) → SaysAs span_of at es left → SaysAs span_of at es last) → ((code : ℕ) → Has span_of left code → Has span_of last code) → PushesPieces span_of at fits e old new
  to_end fits e left last old now new h is fit says has = (
    h.pieces ++ last ∷ [],
    is ∙ ap (λ es. es ++ last ∷ []) h.new_is ∙ append_assoc old h.pieces (last ∷ []),
    All-append fits h.pieces (last ∷ []) h.fit (All-cons fits last [] fit (All-nil fits)),
    h.more (last ∷ []) (λ es whole. (stands_alone last).0 es (says es whole), λ code there. (stands_alone last).1 code (has code there)),
  )

  -- one range more is in pieces
  pub pieces_none : (fits : E → Type 0) → ArePieces span_of at fits [] []
  pieces_none fits = (All-nil fits, (λ es all. all), λ code any. any)

  pub pieces_more : (fits : E → Type 0) (ranges old new : List E) (e : E) → ArePieces span_of at fits ranges old → PushesPieces span_of at fits e old new → ArePieces span_of at fits (ranges ++ e ∷ []) new
  pieces_more fits ranges old new e h (pieces, is, fit, stand) = (
    subst (All fits) (sym is) (All-append fits old pieces h.0 fit),
    λ es all. subst (AllSayAs span_of at es) (sym is) (All-append (SaysAs span_of at es) old pieces (h.1 es (All-front (SaysAs span_of at es) ranges (e ∷ []) all)) (stand.0 es (All-head (SaysAs span_of at es) e [] (All-back (SaysAs span_of at es) ranges (e ∷ []) all)))),
    λ code any. subst (λ es. Cover span_of es code) (sym is) (elim (Any-cases (λ p. Has span_of p code) ranges (e ∷ []) any) [
      | inl before ↦ Any-left (λ p. Has span_of p code) old pieces (h.2 code before)
      | inr here ↦ Any-right (λ p. Has span_of p code) old pieces (stand.1 code (Any-one (λ p. Has span_of p code) e here))
    ]),
  )

  pub pieces_say : (fits : E → Type 0) (es ranges pieces : List E) → ArePieces span_of at fits ranges pieces → SayTheSame span_of at es ranges → SayTheSame span_of at es pieces
  pieces_say fits es ranges pieces h same = (h.1 es same.0, λ code some. h.2 code (same.1 code some))
