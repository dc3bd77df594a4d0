-- The runs of a list of declarations, and what is said of their codes.
use Rattle.std.proofs.Common.{◌≡◌, ℕ, zero, suc, true, true≢false, ◌+◌, ◌^◌, ◌<◌, ◌≤◌, inl, inr, List, [], ◌∷◌, ◌++◌, length, get_or, map, Some, None, refl, ap, ◌∙◌, sym, subst, arith}
use Rattle.std.specs.Prelude.{Option, IsSome, nat_le}
use Rattle.std.specs.List.{All, Any, slice_get}
use Rattle.std.proofs.lemmas.Bool.{and_parts, cases_lt, leb-true}
use Rattle.std.proofs.lemmas.List.{length-map}
use Rattle.std.proofs.lemmas.List.Elements.{All-contains, All-map}
use Rattle.std.proofs.lemmas.Option.{get_or_from_slice_get, same_Some, slice_get-get_or, slice_get_within}
use Rattle.cmap_runs.specs.Ranges.{AreRuns, Holds, IsRun, Run, Span, contains, last_index}
use Rattle.cmap_binary_writer.specs.Pieces.{AllSayAs, Cover, Has, SayTheSame, told}
use Rattle.cmap_binary_writer.proofs.Told.{Any-head, Any-left, Any-right, last_contains, last_within, told_at, told_none}

abbrev pub run_of : ℕ → ℕ → ℕ → Run
run_of low high index = record { low = low; high = high; index = index }

-- a run is one of the runs
pub run_among : (runs : List Run) (i low high index : ℕ) → slice_get runs i ≡ Some (run_of low high index) → Any (λ run. (run.low ≡ low) × (run.high ≡ high)) runs
run_among runs i low high index at = let run = run_of low high index in (i, run, slice_get_within runs i run at, get_or_from_slice_get runs i run run at, (refl, refl))

-- the ranges so far have the codes of the runs before i
abbrev pub HaveRuns : {E : Type 0} → (E → Span) → List Run → List E → ℕ → Type 0
HaveRuns span_of runs ranges i = (code k : ℕ) (run : Run) → k < i → slice_get runs k ≡ Some run → Holds code run → Cover span_of ranges code

module _ {T E X : Type 0} (span : T → Span) (seen : T → E) (span_of : E → Span) (at : E → ℕ → X) (same : (x : T) → span x ≡ span_of (seen x)) where
  pub spans_same : (xs : List T) → map span xs ≡ map span_of (map seen xs)
  spans_same [] = refl
  spans_same (x ∷ xs) = ap (λ s. s ∷ map span xs) (same x) ∙ ap (λ ss. span_of (seen x) ∷ ss) (spans_same xs)

  get_or-seen : (xs : List T) (i : ℕ) (x : T) → slice_get xs i ≡ Some x → get_or (map seen xs) i (seen x) ≡ seen x
  get_or-seen [] i x is = refl
  get_or-seen (y ∷ ys) zero x is = ap seen (same_Some y x is)
  get_or-seen (y ∷ ys) (suc i) x is = get_or-seen ys i x is

  get_or-span : (xs : List T) (i : ℕ) (x : T) → slice_get xs i ≡ Some x → get_or (map span xs) i (span x) ≡ span x
  get_or-span [] i x is = refl
  get_or-span (y ∷ ys) zero x is = ap span (same_Some y x is)
  get_or-span (y ∷ ys) (suc i) x is = get_or-span ys i x is

  module _ (list : List T) (runs : List Run) (are : AreRuns (map span list) runs) where
    pub run_is : (i low high index : ℕ) → slice_get runs i ≡ Some (run_of low high index) → IsRun (last_index (map span list)) (2 ^ 32) (run_of low high index)
    run_is i low high index is = All-contains (IsRun (last_index (map span list)) (2 ^ 32)) runs (run_of low high index) are.each (i, slice_get_within runs i (run_of low high index) is, get_or_from_slice_get runs i (run_of low high index) (run_of low high index) is)

    pub index_within : (i low high index : ℕ) → slice_get runs i ≡ Some (run_of low high index) → index < length list
    index_within i low high index is =
        let run = run_is i low high index is in
        rw (length-map list span) at (last_within (map span list) low index (run.right low (omega arith) run.filled))

    -- the declaration that decides has all codes of the run
    pub run_contained : (i low high index : ℕ) (x : T) → slice_get runs i ≡ Some (run_of low high index) → slice_get list index ≡ Some x → ((span x).start ≤ low) × (low ≤ high) × (high ≤ (span x).end) × (high < 2 ^ 32)
    run_contained i low high index x is there =
        let run = run_is i low high index is in
        let s = span x in
        let at_span = get_or-span list index x there in
        let first : contains s low ≡ true = subst (λ s. contains s low ≡ true) at_span (last_contains (map span list) low index s (run.right low (omega arith) run.filled)) in
        let last : contains s high ≡ true = subst (λ s. contains s high ≡ true) at_span (last_contains (map span list) high index s (run.right high run.filled (omega arith))) in
        (leb-true s.start low (and_parts (nat_le s.start low) (nat_le low s.end) first).0, run.filled, leb-true high s.end (and_parts (nat_le s.start high) (nat_le high s.end) last).1, run.below)

    -- and says what is said of them
    pub run_told : (i low high index code : ℕ) (x : T) → slice_get runs i ≡ Some (run_of low high index) → slice_get list index ≡ Some x → low ≤ code → code ≤ high → told span_of at (map seen list) code ≡ Some (at (seen x) code)
    run_told i low high index code x is there after before =
        let run = run_is i low high index is in
        let decides : last_index (map span_of (map seen list)) code ≡ Some index = ap (λ ss. last_index ss code) (sym (spans_same list)) ∙ run.right code after before in
        told_at span_of at (map seen list) code index (seen x) decides ∙ ap (λ e. Some (at e code)) (get_or-seen list index x there)

    pub have_none : HaveRuns span_of runs [] 0
    have_none code k run below = absurd (omega arith)

    pub have_more : (old new : List E) (i low high index : ℕ) (e : E) → HaveRuns span_of runs old i → slice_get runs i ≡ Some (run_of low high index) → ((code : ℕ) → Cover span_of (old ++ e ∷ []) code → Cover span_of new code) → ((code : ℕ) → low ≤ code → code ≤ high → Has span_of e code) → HaveRuns span_of runs new (i + 1)
    have_more old new i low high index e h is taken has code k run below there holds = elim (cases_lt k i) [
      | inl before ↦ taken code (Any-left (λ p. Has span_of p code) old (e ∷ []) (h code k run before there holds))
      | inr here ↦
          let at_i : k ≡ i = omega (arith, below, here) in
          let run_same : run ≡ run_of low high index = same_Some run (run_of low high index) (sym there ∙ ap (slice_get runs) at_i ∙ is) in
          let within : Holds code (run_of low high index) = subst (Holds code) run_same holds in
          taken code (Any-right (λ p. Has span_of p code) old (e ∷ []) (Any-head (λ p. Has span_of p code) e [] (has code within.0 within.1)))
    ]

    some_decides : (code : ℕ) (o : Option ℕ) → last_index (map span list) code ≡ o → IsSome (told span_of at (map seen list) code) → (index : ℕ) × (o ≡ Some index)
    some_decides code None is some = absurd (no_some (told_none span_of at (map seen list) code (ap (λ ss. last_index ss code) (sym (spans_same list)) ∙ is)) some)
      where
        no_some : {o : Option X} → o ≡ None → IsSome o → ⊥
        no_some is h = true≢false (sym (subst (λ o. IsSome o) is h))
    some_decides code (Some index) is some = (index, refl)

    pub have_all : (ranges : List E) → All (λ x. (span x).end < 2 ^ 32) list → AllSayAs span_of at (map seen list) ranges → HaveRuns span_of runs ranges (length runs) → SayTheSame span_of at (map seen list) ranges
    have_all ranges small right whole = (
      right,
      λ code some.
          let (index, is) = some_decides code (last_index (map span list) code) refl some in
          let below : code < 2 ^ 32 = code_small code index is in
          let (k, run, within, at_k, holds) = are.complete code below (subst (λ o. IsSome o) (sym is) refl) in
          whole code k run within (slice_get-get_or runs k run within ∙ ap Some at_k) holds,
    )
      where
        code_small : (code index : ℕ) → last_index (map span list) code ≡ Some index → code < 2 ^ 32
        code_small code index is =
            let there = last_within (map span list) code index is in
            let s : Span = get_or (map span list) index (record { start = 0; end = 0 }) in
            let at_s = last_contains (map span list) code index (record { start = 0; end = 0 }) is in
            let high = leb-true code s.end (and_parts (nat_le s.start code) (nat_le code s.end) at_s).1 in
            let fits : s.end < 2 ^ 32 = All-map (λ (s : Span). s.end < 2 ^ 32) span list small index (record { start = 0; end = 0 }) there in
            omega (arith, high, fits)
