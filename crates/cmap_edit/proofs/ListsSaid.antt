-- What a list says once a declaration is added at its end, or the last one goes on.
use Rattle.std.proofs.Common.{◌≡◌, ℕ, ◌+◌, ◌<◌, ◌≤◌, Bool, true, false, List, [], ◌∷◌, ◌++◌, Option, Some, None, length, map, zero, suc, refl, ap, ◌∙◌, inl, inr, arith}
use Rattle.std.specs.Prelude.{option_and_then, option_map, slice_get, if◌then◌else◌}
use Rattle.std.specs.Option.{option_or}
use Rattle.std.proofs.lemmas.Bool.Decides.{nat_tests}
use Rattle.std.proofs.lemmas.Bool.{cases_lt}
use Rattle.std.proofs.lemmas.List.{length-map, map-append}
use Rattle.cmap_runs.specs.Ranges.{Span, contains, last_index, last_of}
use Rattle.cmap_edit.specs.Tidy.{said}

-- a test of a span, and what shows it
pub is_in : (span : Span) (code : ℕ) → span.start ≤ code → code ≤ span.end → contains span code ≡ true
is_in span code from to = grind (arith, nat_tests)

pub is_before : (span : Span) (code : ℕ) → code < span.start → contains span code ≡ false
is_before span code before = grind (arith, nat_tests)

pub is_after : (span : Span) (code : ℕ) → span.end < code → contains span code ≡ false
is_after span code after = grind (arith, nat_tests)

index_pushed_by : (b : Bool) (n : ℕ) (o first : Option ℕ)
    → option_or (option_map suc (if b then Some n else o)) first ≡ (if b then Some (suc n) else option_or (option_map suc o) first)
index_pushed_by true n o first = refl
index_pushed_by false n o first = refl

last_index-pushed : (spans : List Span) (span : Span) (code : ℕ)
    → last_index (spans ++ span ∷ []) code ≡ (if contains span code then Some (length spans) else last_index spans code)
last_index-pushed [] span code = refl
last_index-pushed (first ∷ rest) span code =
    ap (λ o. option_or (option_map suc o) (if contains first code then Some 0 else None)) (last_index-pushed rest span code)
    ∙ index_pushed_by (contains span code) (length rest) (last_index rest code) (if contains first code then Some 0 else None)

index_within_by : (n i : ℕ) (b : Bool) (o : Option ℕ) → ((j : ℕ) → o ≡ Some j → j < n) → option_or (option_map suc o) (if b then Some 0 else None) ≡ Some i → i < suc n
index_within_by n i b (Some j) within is = let lt = within j refl in let same : suc j ≡ i = cc in omega (arith, lt, same)
index_within_by n i true None within is = let same : 0 ≡ i = cc in omega (arith, same)
index_within_by n i false None within is = absurd cc

pub last_index-within : (spans : List Span) (code i : ℕ) → last_index spans code ≡ Some i → i < length spans
last_index-within [] code i is = absurd cc
last_index-within (first ∷ rest) code i is = index_within_by (length rest) i (contains first code) (last_index rest code) (last_index-within rest code) is

got_last : {E : Type 0} (xs : List E) (e : E) → slice_get (xs ++ e ∷ []) (length xs) ≡ Some e
got_last [] e = refl
got_last (x ∷ xs) e = got_last xs e

got_old : {E : Type 0} (xs : List E) (e : E) (i : ℕ) → i < length xs → slice_get (xs ++ e ∷ []) i ≡ slice_get xs i
got_old [] e i lt = absurd (omega (arith, lt))
got_old (x ∷ xs) e zero lt = refl
got_old (x ∷ xs) e (suc i) lt = got_old xs e i (omega arith)

found_pushed : {E : Type 0} (xs : List E) (e : E) (b : Bool) (n : ℕ) (o : Option ℕ) → n ≡ length xs → ((i : ℕ) → o ≡ Some i → i < length xs)
    → option_and_then (slice_get (xs ++ e ∷ [])) (if b then Some n else o) ≡ (if b then Some e else option_and_then (slice_get xs) o)
found_pushed xs e true n o is within = ap (slice_get (xs ++ e ∷ [])) is ∙ got_last xs e
found_pushed xs e false n None is within = refl
found_pushed xs e false n (Some i) is within = got_old xs e i (within i refl)

map_if : {E Y : Type 0} (f : E → Y) (b : Bool) (x y : Option E) → option_map f (if b then x else y) ≡ (if b then option_map f x else option_map f y)
map_if f true x y = refl
map_if f false x y = refl

module _ {E X : Type 0} (span : E → Span) (at : E → ℕ → X) where
  pub said_pushed : (xs : List E) (e : E) (code : ℕ) → said span at (xs ++ e ∷ []) code ≡ (if contains (span e) code then Some (at e code) else said span at xs code)
  said_pushed xs e code =
      let spans = map span xs in
      ap (λ s. option_map (λ x. at x code) (option_and_then (slice_get (xs ++ e ∷ [])) (last_index s code))) (map-append span xs (e ∷ []))
      ∙ ap (λ o. option_map (λ x. at x code) (option_and_then (slice_get (xs ++ e ∷ [])) o)) (last_index-pushed spans (span e) code)
      ∙ ap (option_map (λ x. at x code)) (found_pushed xs e (contains (span e) code) (length spans) (last_index spans code) (length-map xs span)
      (λ i is. omega (arith, last_index-within spans code i is, length-map xs span)))
      ∙ map_if (λ x. at x code) (contains (span e) code) (Some e) (last_of span xs code)

  -- the last one goes on to the codes of the row
  pub said_went_on : (front : List E) (e row one : E) → (span e).start ≤ (span e).end → (span e).end + 1 ≡ (span row).start
      → span one ≡ record { start = (span e).start; end = (span row).end }
      → ((code : ℕ) → (span e).start ≤ code → code ≤ (span e).end → at one code ≡ at e code)
      → ((code : ℕ) → (span row).start ≤ code → code ≤ (span row).end → at one code ≡ at row code)
      → (span row).start ≤ (span row).end
      → (code : ℕ) → said span at (front ++ one ∷ []) code ≡ (if contains (span row) code then Some (at row code) else said span at (front ++ e ∷ []) code)
  said_went_on front e row one filled meets spans old new filled_too code =
      let starts : (span one).start ≡ (span e).start = ap (λ (s : Span). s.start) spans in
      let ends : (span one).end ≡ (span row).end = ap (λ (s : Span). s.end) spans in
      let here = said_pushed front one code in
      let there = said_pushed front e code in
      elim (cases_lt code (span e).start) [
        | inl before ↦
            let a = is_before (span one) code (omega arith) in let b = is_before (span e) code before in let c = is_before (span row) code (omega arith) in
            rw (here, there, a, b, c) refl
        | inr from ↦
            elim (cases_lt (span e).end code) [
              | inr within ↦
                  let a = is_in (span one) code (omega arith) (omega arith) in let b = is_in (span e) code from within in let c = is_before (span row) code (omega arith) in
                  rw (here, there, a, b, c) (ap Some (old code from within))
              | inl later ↦
                  elim (cases_lt (span row).end code) [
                    | inr within ↦
                        let a = is_in (span one) code (omega arith) (omega arith) in let c = is_in (span row) code (omega arith) within in
                        rw (here, a, c) (ap Some (new code (omega arith) within))
                    | inl after ↦
                        let a = is_after (span one) code (omega arith) in let b = is_after (span e) code later in let c = is_after (span row) code after in
                        rw (here, there, a, b, c) refl
                  ]
            ]
      ]
