-- Tables of chosen codes: which codes they have.
use Rattle.std.proofs.Common.{◌≡◌, ℕ, ◌+◌, ◌<◌, ◌≤◌, true, false, true≢false, List, [], ◌∷◌, ◌++◌, length, get_or, take, Option, Some, None, map, refl, sym, ap, ◌∙◌, subst, inl, inr}
use denote.Enum.Bare.{sameb}
use Rattle.std.specs.Prelude.{◌==◌, ◌↔◌, IsSome, Any, option_and_then, option_map, slice_get}
use Rattle.std.proofs.lemmas.Bool.{and_from, and_parts, eq-eqb, eqb-true, le-leb, leb-true}
use Rattle.std.proofs.lemmas.List.{take_more}
use Rattle.std.proofs.lemmas.List.Quantifiers.{Any-push}
use Rattle.std.proofs.lemmas.Option.{get_or_from_slice_get, none-some, same_Some, slice_get-get_or, slice_get-map, slice_get_within}
use Rattle.cmap_runs.specs.Ranges.{Span, contains, last_index, last_of}
use Rattle.cmap_runs.specs.Stretches.{IsStretch}
use Rattle.cmap_runs.proofs.LastIndex.{IsLast, is_last}
use Rattle.cmap_values.specs.CodeLengths.{length_of}
use Rattle.cmap_values.specs.contracts.code_length.CodeLength.{the_type}
use Rattle.cmap_values.specs.declared.code_length.CodeLength.{CodeLength}
use Rattle.cmap_values.specs.declared.code_length.CodeLength.TheVariants.{One, Two, Three, Four}
use Rattle.cmap_layers.specs.CodeRanges.{IsIn}
use Rattle.cmap_edit.specs.Chosen.{Chosen}
use Rattle.cmap_edit.specs.declared.flatten.codes.Codes.{Codes}
use Rattle.cmap_edit.proofs.AnyElements.{Any-cases, Any-left, Any-nil, Any-one}

-- ---- a list has a declaration that contains the code, just if one decides the code
module _ {A : Type 0} (span : A → Span) (xs : List A) (code : ℕ) where
  abbrev pub Holds : A → Type 0
  Holds x = ((span x).start ≤ code) × (code ≤ (span x).end)

  at_place : (x : Option A) (index : ℕ) (s : Span) → slice_get xs index ≡ x → option_map span x ≡ Some s → contains s code ≡ true → Any Holds xs
  at_place None index s is none within = absurd (none-some s none)
  at_place (Some x) index s is same within =
      let parts = and_parts _ _ (subst (λ s. contains s code ≡ true) (sym (same_Some _ _ same)) within) in
      (index, x, slice_get_within xs index x is, get_or_from_slice_get xs index x x is, (leb-true _ _ parts.0, leb-true _ _ parts.1))

  any_found : (o : Option ℕ) → IsLast (map span xs) code o → IsSome (option_and_then (slice_get xs) o) → Any Holds xs
  any_found None last some = absurd (true≢false (sym some))
  any_found (Some index) last some = at_place (slice_get xs index) index last.0.0 refl (sym (slice_get-map span xs index) ∙ last.0.1) last.0.2

  some_place : (x : Option A) (s : Span) → option_map span x ≡ Some s → IsSome x
  some_place None s none = absurd (none-some s none)
  some_place (Some x) s same = refl

  found_any : (o : Option ℕ) → IsLast (map span xs) code o → Any Holds xs → IsSome (option_and_then (slice_get xs) o)
  found_any None last (k, x, lt, is, within) =
      absurd (last k (span x, slice_get-map span xs k ∙ ap (option_map span) (slice_get-get_or xs k x lt ∙ ap Some is), and_from _ _ (le-leb _ _ within.0) (le-leb _ _ within.1)))
  found_any (Some index) last any = some_place (slice_get xs index) last.0.0 (sym (slice_get-map span xs index) ∙ last.0.1)

  pub has_any : IsSome (last_of span xs code) ↔ Any Holds xs
  has_any = let last = is_last (map span xs) code in (any_found (last_index (map span xs) code) last, found_any (last_index (map span xs) code) last)

-- ---- the ranges of one length
same_lengths : (a b : CodeLength) → sameb the_type a b ≡ (length_of a == length_of b)
same_lengths One One = refl
same_lengths Two Two = refl
same_lengths Three Three = refl
same_lengths Four Four = refl
same_lengths _ _ = refl

-- one more range, of this length or of another
module _ (codes list : List Codes) (i : ℕ) (d : Codes) (len : ℕ) (lt : i < length codes) (are : (code : ℕ) → Any (λ one. IsIn code one.range) list ↔ Chosen (take i codes) code len) where
  pub chosen_more : length_of (get_or codes i d).len ≡ len → (code : ℕ) → Any (λ one. IsIn code one.range) (list ++ get_or codes i d ∷ []) ↔ Chosen (take (i + 1) codes) code len
  chosen_more same code =
      let P = λ (one : Codes). IsIn code one.range in let Q = λ (one : Codes). (length_of one.len ≡ len) × IsIn code one.range in let one = get_or codes i d in
      rw (take_more codes i d lt) (
        λ any. elim (Any-cases P list (one ∷ []) any) [ inl old ↦ Any-left Q (take i codes) (one ∷ []) ((are code).0 old) | inr new ↦ Any-push Q (take i codes) one (same, Any-one P one new) ],
        λ any. elim (Any-cases Q (take i codes) (one ∷ []) any) [ inl old ↦ Any-left P list (one ∷ []) ((are code).1 old) | inr new ↦ Any-push P list one (Any-one Q one new).1 ],
      )

  pub passed_over : (length_of (get_or codes i d).len ≡ len → ⊥) → (code : ℕ) → Any (λ one. IsIn code one.range) list ↔ Chosen (take (i + 1) codes) code len
  passed_over other code =
      let Q = λ (one : Codes). (length_of one.len ≡ len) × IsIn code one.range in let one = get_or codes i d in
      rw (take_more codes i d lt) (
        λ any. Any-left Q (take i codes) (one ∷ []) ((are code).0 any),
        λ any. elim (Any-cases Q (take i codes) (one ∷ []) any) [ inl old ↦ (are code).1 old | inr new ↦ absurd (other (Any-one Q one new).0) ],
      )

-- no range yet
pub none_chosen : (len code : ℕ) → Any (λ (one : Codes). IsIn code one.range) [] ↔ Chosen [] code len
none_chosen len code = (λ any. absurd (Any-nil (λ one. IsIn code one.range) any), λ any. absurd (Any-nil (λ one. (length_of one.len ≡ len) × IsIn code one.range) any))

-- ranges of one length are told by a test
pub lengths_agree : (a b : CodeLength) → sameb the_type a b ≡ true → length_of a ≡ length_of b
lengths_agree a b same = eqb-true _ _ (sym (same_lengths a b) ∙ same)

pub lengths_differ : (a b : CodeLength) → sameb the_type a b ≡ false → length_of a ≡ length_of b → ⊥
lengths_differ a b other same = true≢false (sym (eq-eqb _ _ same) ∙ sym (same_lengths a b) ∙ other)

-- what stands at an index past the end
abbrev pub no_codes : Codes
no_codes = record { len = One; range = record { start = 0; end = 0 } }

-- ---- the declaration that decides a code is one of the list, and contains the code
module _ {A : Type 0} (span : A → Span) (xs : List A) (code : ℕ) (x : A) where
  one_at : (o : Option ℕ) → IsLast (map span xs) code o → option_and_then (slice_get xs) o ≡ Some x → Any (λ y. (y ≡ x) × Holds span xs code y) xs
  one_at None last none = absurd (none-some x none)
  one_at (Some index) last is =
      let same = same_Some _ _ (sym last.0.1 ∙ slice_get-map span xs index ∙ ap (option_map span) is) in
      let parts = and_parts _ _ (subst (λ s. contains s code ≡ true) same last.0.2) in
      (index, x, slice_get_within xs index x is, get_or_from_slice_get xs index x x is, (refl, (leb-true _ _ parts.0, leb-true _ _ parts.1)))

  pub found_one : last_of span xs code ≡ Some x → Any (λ y. (y ≡ x) × Holds span xs code y) xs
  found_one is = one_at (last_index (map span xs) code) (is_last (map span xs) code) is

-- ---- a stretch of a table, by the table that is walked and the code that comes next
pub stretch_of : {A : Type 0} (span : A → Span) (walked table : List A) (from next last : ℕ) (found : Option A) → walked ≡ table → from ≡ next → IsStretch span walked from last found → IsStretch span table next last found
stretch_of span walked table from next last found same starts is = subst (λ n. IsStretch span table n last found) starts (subst (λ xs. IsStretch span xs from last found) same is)
