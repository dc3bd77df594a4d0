-- What `last_index` gives: an index whose span contains the code, and the greatest such index.
use Rattle.std.proofs.Common.{◌≡◌, ℕ, zero, suc, ◌≤◌, Bool, true, false, true≢false, cond, List, [], ◌∷◌, Option, refl, sym, ap, ◌∙◌, arith}
use Rattle.std.specs.Prelude.{Some, None, option_map, slice_get}
use Rattle.std.specs.Option.{option_or}
use Rattle.std.proofs.lemmas.Option.{none-some, same_Some}
use Rattle.cmap_runs.specs.Ranges.{Span, contains, last_index}

-- the span at the index contains the code
abbrev pub ContainsAt : List Span → ℕ → ℕ → Type 0
ContainsAt spans code index = (span : Span) × (slice_get spans index ≡ Some span) × (contains span code ≡ true)

abbrev pub IsLast : List Span → ℕ → Option ℕ → Type 0
IsLast spans code None = (index : ℕ) → ContainsAt spans code index → ⊥
IsLast spans code (Some index) = ContainsAt spans code index × ((other : ℕ) → ContainsAt spans code other → other ≤ index)

is_last_more : (span : Span) (rest : List Span) (code : ℕ) (o : Option ℕ) (here : Bool) → contains span code ≡ here
    → IsLast rest code o → IsLast (span ∷ rest) code (option_or (option_map suc o) (cond here (Some 0) None))
is_last_more span rest code (Some index) here is last = (last.0, λ other. elim other as (λ n. ContainsAt (span ∷ rest) code n → n ≤ suc index) [ zero ↦ λ at. omega arith | suc n ↦ λ at. omega (arith, last.1 n at) ])
is_last_more span rest code None true is last = ((span, refl, is), λ other. elim other as (λ n. ContainsAt (span ∷ rest) code n → n ≤ 0) [ zero ↦ λ at. omega arith | suc n ↦ λ at. absurd (last n at) ])
is_last_more span rest code None false is last = λ other.
    elim other as (λ n. ContainsAt (span ∷ rest) code n → ⊥) [
      | zero ↦ λ at. true≢false (sym at.2 ∙ sym (ap (λ s. contains s code) (same_Some span at.0 at.1)) ∙ is)
      | suc n ↦ λ at. last n at
    ]

pub is_last : (spans : List Span) (code : ℕ) → IsLast spans code (last_index spans code)
is_last [] code = λ index at. none-some at.0 at.1
is_last (span ∷ rest) code = is_last_more span rest code (last_index rest code) (contains span code) refl (is_last rest code)
