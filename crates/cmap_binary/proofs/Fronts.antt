-- What bytes begin with, one thing after another: the parts have one value each, and so has the whole; or a part has none, and so has the whole.
use Rattle.std.proofs.Common.{◌≡◌, true, false, ℕ, zero, suc, ◌<◌, ◌≤◌, ◌+◌, refl, sym, ap, ◌∙◌, subst, List, [], ◌∷◌, ◌++◌, length, take, drop, inl, inr, arith, append_assoc, append-nil}
use Rattle.std.specs.Prelude.{◌==◌, ◌↔◌, nat_le, IfOk, IsSome, MatchOption, Option, Result, Some, None, Ok, Err}
use Rattle.std.specs.Borrow.{Bor}
use Rattle.std.specs.List.{IsSplitAt}
use Rattle.std.proofs.lemmas.Bool.{cases_Bool, eqb-true, eqb-false, le-leb, leb-true}
use Rattle.std.proofs.lemmas.List.{length-drop, length-take-le, nil_from_length}
use Rattle.std.proofs.lemmas.Option.{none-some, same_Some}
use Rattle.cmap_values.specs.BigEndian.{big_endian}
use Rattle.cmap_binary.specs.Reader.{number_at}
use Rattle.cmap_values.specs.Only.{IsOnly, HoldsOfNone}
use Rattle.cmap_binary.specs.Fronts.{Then, Gives, GivesIf, RowOf, AllOf, BytesAt, FieldAt, FramedAt}
use Rattle.cmap_values.specs.Outcomes.{Finds}

abbrev pub pair : {A B : Type 0} → A → B → A × B
pair a b = (a, b)

pub pair_is : {A B : Type 0} (p q : A × B) → p.0 ≡ q.0 → p.1 ≡ q.1 → p ≡ q
pair_is p q first second = ap (λ a. pair a p.1) first ∙ ap (pair q.0) second

pub gives : {A : Type 0} {x : A} → IsOnly (Gives x) x
gives = record { holds = refl; alone = λ other is. is }

pub gives_if : {A : Type 0} {C : Type 0} {x : A} → C → IsOnly (GivesIf C x) x
gives_if holds = record { holds = (holds, refl); alone = λ other is. is.1 }

pub gives_none : {A : Type 0} {C : Type 0} {x : A} → (C → ⊥) → HoldsOfNone (GivesIf C x)
gives_none wrong other is = wrong is.0

pub then_none : {A S B : Type 0} (P : A × S → Type 0) (Q : A → S → B → Type 0) → HoldsOfNone P → HoldsOfNone (Then P Q)
then_none P Q none other (x, rest, at, later) = none (x, rest) at

module _ {A S B : Type 0} {P : A × S → Type 0} {x : A} {rest : S} (Q : A → S → B → Type 0) (first : IsOnly P (x, rest)) where
  at_one : (other : B) → Then P Q other → Q x rest other
  at_one other (y, mid, at, later) = subst (λ p. Q p.0 p.1 other) (first.alone (y, mid) at) later

  pub then_next : HoldsOfNone (Q x rest) → HoldsOfNone (Then P Q)
  then_next none other is = none other (at_one other is)

  pub then_only : {y : B} → IsOnly (Q x rest) y → IsOnly (Then P Q) y
  then_only only = record { holds = (x, rest, first.holds, only.holds); alone = λ other is. only.alone other (at_one other is) }

  pub then_finds : {V : Type 0} (seen : V → B) (o : Option V) → Finds (Q x rest) seen o → Finds (Then P Q) seen o
  then_finds seen None none = then_next none
  then_finds seen (Some y) only = then_only only

pub then_finds_ok : {A S B V E : Type 0} {P : A × S → Type 0} {x : A} {rest : S} (Q : A → S → B → Type 0) (seen : V → B) (r : Result (Option V) E) → IsOnly P (x, rest) → IfOk r (Finds (Q x rest) seen) → IfOk r (Finds (Then P Q) seen)
then_finds_ok Q seen (Ok o) first finds = then_finds Q first seen o finds
then_finds_ok Q seen (Err e) first finds = tt

pub finds_under : {A B C : Type 0} (P : B → Type 0) (seen : A → B) (o : Option A) → C → Finds P seen o → Finds (λ y. C × P y) seen o
finds_under P seen None holds none = λ other is. none other is.1
finds_under P seen (Some y) holds only = record { holds = (holds, only.holds); alone = λ other is. only.alone other is.1 }

pub split_only : (size : ℕ) (bytes piece rest : List ℕ) → IsSplitAt bytes size piece rest → IsOnly (BytesAt size bytes) (piece, rest)
split_only size bytes piece rest split = record { holds = split; alone = λ other is. pair_is other (piece, rest) (is.1 ∙ sym split.1) (is.2 ∙ sym split.2) }

-- a number is what is written by the first bytes, if there are enough
number_at-some : (width n : ℕ) (bytes : List ℕ) → number_at width bytes ≡ Some n → (width ≤ length bytes) × (n ≡ big_endian (take width bytes))
number_at-some width n bytes is = elim (cases_Bool (nat_le width (length bytes))) [
  | inl within ↦ (leb-true width (length bytes) within, sym (same_Some _ _ (rw within at is)))
  | inr past ↦ absurd (none-some n (rw past at is))
]

pub field_only : (width n : ℕ) (bytes : List ℕ) → Some n ≡ number_at width bytes → IsOnly (FieldAt width bytes) (n, drop width bytes)
field_only width n bytes is =
    let (enough, number) = number_at-some width n bytes (sym is) in
    let split : IsSplitAt bytes width (take width bytes) (drop width bytes) = (enough, refl, refl, length-take-le width bytes enough, omega (arith, length-drop width bytes, enough)) in
    rw number (then_only _ (split_only _ _ _ _ split) gives)

pub no_field : (width : ℕ) (bytes : List ℕ) → None ≡ number_at width bytes → HoldsOfNone (FieldAt width bytes)
no_field width bytes none other (field, rest, split, is) = let some : number_at width bytes ≡ Some (big_endian (take width bytes)) = rw (le-leb width (length bytes) split.0) refl in none-some _ (none ∙ some)

-- what a field says, and what follows it
pub field_is : (width : ℕ) (bytes : List ℕ) (r : ℕ × List ℕ) → FieldAt width bytes r → (width ≤ length bytes) × (r.0 ≡ big_endian (take width bytes)) × (r.1 ≡ drop width bytes)
field_is width bytes r (field, rest, split, is) = (split.0, ap (λ p. p.0) is ∙ ap big_endian split.1, ap (λ p. p.1) is ∙ split.2)

pub bytes_found : (Kept : Type 0) (o : Option (Bor (List ℕ))) (after : List ℕ) (size : ℕ) (bytes : List ℕ) → MatchOption o Kept (λ piece. IsSplitAt bytes size piece.now after) → IsSome o ↔ (size ≤ length bytes) → Finds (BytesAt size bytes) (λ piece. (piece.now, after)) o
bytes_found Kept None after size bytes kept fits = λ other is. let e : false ≡ true = fits.1 is.0 in cc
bytes_found Kept (Some piece) after size bytes split fits = split_only size bytes piece.now after split

-- a piece that gives its whole length is one
pub framed_alone : (before : ℕ) {bytes : List ℕ} (p q : List ℕ × List ℕ) → FramedAt before bytes p → FramedAt before bytes q → p ≡ q
framed_alone before {bytes} p q (size, rest, field, (filled, split)) (size_q, rest_q, field_q, (filled_q, split_q)) =
    let same : size ≡ size_q = (field_is 4 (drop before bytes) (size, rest) field).1 ∙ sym (field_is 4 (drop before bytes) (size_q, rest_q) field_q).1 in
    pair_is p q (split.1 ∙ ap (λ n. take n bytes) same ∙ sym split_q.1) (split.2 ∙ ap (λ n. drop n bytes) same ∙ sym split_q.2)

-- no more is left after a piece than before it
pub framed_within : (before : ℕ) {bytes piece rest : List ℕ} → FramedAt before bytes (piece, rest) → length rest ≤ length bytes
framed_within before (size, after, field, (filled, split)) = omega (arith, split.4)

-- what holds of the values that are made of those of which this holds, and of no others
pub record Continues {A B : Type 0} (P : A → Type 0) (f : B → A) (Q : B → Type 0) : Type 0 where
  pub made : (y : B) → Q y → P (f y)
  pub parts : (x : A) → P x → (y : B) × Q y × (x ≡ f y)

pub continues_only : {A B : Type 0} {P : A → Type 0} {f : B → A} {Q : B → Type 0} {y : B} → Continues P f Q → IsOnly Q y → IsOnly P (f y)
continues_only {f = f} row only = record { holds = row.made _ only.holds; alone = λ other is. let (y, at, same) = row.parts other is in same ∙ ap f (only.alone y at) }

pub continues_none : {A B : Type 0} {P : A → Type 0} {f : B → A} {Q : B → Type 0} → Continues P f Q → HoldsOfNone Q → HoldsOfNone P
continues_none row none other is = let (y, at, same) = row.parts other is in none y at

pub all_start : {A : Type 0} (P : List A → Type 0) → Continues P (λ more. [] ++ more) P
all_start P = record { made = λ y is. is; parts = λ x is. (x, is, refl) }

-- n things in a row: those before index i are these, and the others come from here
pub record HasRow {A S : Type 0} (item : S → A × S → Type 0) (n : ℕ) (start : S) (i : ℕ) (here : S) (xs : List A) : Type 0 where
  pub left : ℕ
  pub count : i + left ≡ n
  pub row : Continues (RowOf item n start) (λ r. pair (xs ++ r.0) r.1) (RowOf item left here)

module _ {A S : Type 0} (item : S → A × S → Type 0) (n : ℕ) (start : S) where
  pub row_start : HasRow item n start 0 start []
  row_start = record { left = n; count = omega arith; row = record { made = λ r is. is; parts = λ r is. (r, is, refl) } }

  more_at : (i left : ℕ) (here next : S) (xs : List A) (x : A) → i + left ≡ n → Continues (RowOf item n start) (λ r. pair (xs ++ r.0) r.1) (RowOf item left here) → i < n → IsOnly (item here) (x, next) → HasRow item n start (i + 1) next (xs ++ x ∷ [])
  more_at i zero here next xs x count row below only = absurd (omega (arith, count, below))
  more_at i (suc left) here next xs x count row below only = record {
    left = left;
    count = omega (arith, count);
    row = record {
      made = λ r later. subst (λ l. RowOf item n start (l, r.1)) (sym (append_assoc xs (x ∷ []) r.0)) (row.made (x ∷ r.0, r.1) (x, next, only.holds, (r.0, r.1, later, refl)));
      parts = λ r is.
          let (all, (y, mid, at, (more, end, later, same)), whole) = row.parts r is in
          let alone = only.alone (y, mid) at in (
            (more, end),
            subst (λ m. RowOf item left m (more, end)) (ap (λ p. p.1) alone) later,
            whole ∙ ap (λ q. pair (xs ++ q.0) q.1) same ∙ ap (λ p. pair (xs ++ p.0 ∷ more) end) alone ∙ ap (λ l. pair l end) (sym (append_assoc xs (x ∷ []) more)),
          );
    };
  }

  pub row_more : (i : ℕ) (here next : S) (xs : List A) (x : A) → HasRow item n start i here xs → i < n → IsOnly (item here) (x, next) → HasRow item n start (i + 1) next (xs ++ x ∷ [])
  row_more i here next xs x has below only = more_at i has.left here next xs x has.count has.row below only

  none_at : (left : ℕ) (here : S) → 0 < left → HoldsOfNone (item here) → HoldsOfNone (RowOf item left here)
  none_at zero here some none = absurd (omega (arith, some))
  none_at (suc left) here some none = then_none _ _ none

  pub row_wrong : (i : ℕ) (here : S) (xs : List A) → HasRow item n start i here xs → i < n → HoldsOfNone (item here) → HoldsOfNone (RowOf item n start)
  row_wrong i here xs has below none = continues_none has.row (none_at has.left here (omega (arith, has.count, below)) none)

  only_at : (left : ℕ) (here : S) (xs : List A) → left ≡ 0 → Continues (RowOf item n start) (λ r. pair (xs ++ r.0) r.1) (RowOf item left here) → IsOnly (RowOf item n start) (xs, here)
  only_at zero here xs none row = subst (λ l. IsOnly (RowOf item n start) (l, here)) (append-nil xs) (continues_only row gives)
  only_at (suc left) here xs none row = absurd (omega (arith, none))

  pub row_end : (i : ℕ) (here : S) (xs : List A) → HasRow item n start i here xs → n ≤ i → IsOnly (RowOf item n start) (xs, here)
  row_end i here xs has end = only_at has.left here xs (omega (arith, has.count, end)) has.row

pub filled : {bytes : List ℕ} → false ≡ (length bytes == 0) → bytes ≡ [] → ⊥
filled {bytes} is none = eqb-false _ 0 (sym is) (ap length none)

pub emptied : {bytes : List ℕ} → true ≡ (length bytes == 0) → bytes ≡ []
emptied {bytes} is = nil_from_length bytes (eqb-true _ 0 (sym is))

-- these up to the end
module _ {A : Type 0} (item : List ℕ → A × List ℕ → Type 0) where
  pub all_parts : (here next : List ℕ) (x : A) → (here ≡ [] → ⊥) → IsOnly (item here) (x, next) → (all : List A) → AllOf item here all → (xs : List A) × AllOf item next xs × (all ≡ x ∷ xs)
  all_parts here next x some only [] is = absurd (some is)
  all_parts here next x some only (y ∷ ys) (mid, at, later) = let alone = only.alone (y, mid) at in (ys, subst (λ m. AllOf item m ys) (ap (λ p. p.1) alone) later, ap (λ p. p.0 ∷ ys) alone)

  pub all_more : (start here next : List ℕ) (xs : List A) (x : A) → Continues (AllOf item start) (λ more. xs ++ more) (AllOf item here) → (here ≡ [] → ⊥) → IsOnly (item here) (x, next)
      → Continues (AllOf item start) (λ more. (xs ++ x ∷ []) ++ more) (AllOf item next)
  all_more start here next xs x row some only = record {
    made = λ more all. subst (AllOf item start) (sym (append_assoc xs (x ∷ []) more)) (row.made (x ∷ more) (next, only.holds, all));
    parts = λ all is.
        let (ys, at, whole) = row.parts all is in
        let (more, later, same) = all_parts here next x some only ys at in
        (more, later, whole ∙ ap (λ l. xs ++ l) same ∙ sym (append_assoc xs (x ∷ []) more));
  }

  pub all_wrong : (here : List ℕ) → (here ≡ [] → ⊥) → HoldsOfNone (item here) → HoldsOfNone (AllOf item here)
  all_wrong here some none [] is = some is
  all_wrong here some none (x ∷ xs) (rest, at, later) = none (x, rest) at

  alone_at : HoldsOfNone (item []) → (xs : List A) → AllOf item [] xs → xs ≡ []
  alone_at none [] is = refl
  alone_at none (x ∷ xs) (rest, at, later) = absurd (none (x, rest) at)

  pub all_end : (here : List ℕ) → here ≡ [] → HoldsOfNone (item []) → IsOnly (AllOf item here) []
  all_end here end none = subst (λ l. IsOnly (AllOf item l) []) (sym end) (record { holds = refl; alone = alone_at none })

pub no_frame : (before : ℕ) → HoldsOfNone (FramedAt before [])
no_frame before other (size, rest, field, (least, split)) = omega (arith, least, split.0)
