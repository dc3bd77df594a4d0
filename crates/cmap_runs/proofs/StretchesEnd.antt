-- Where a stretch of codes ends, and which runs are left after it.
use Rattle.std.proofs.Common.{◌≡◌, ℕ, ◌+◌, ◌-◌, ◌<◌, ◌≤◌, ◌^◌, List, length, get_or, refl, sym, ap, ◌∙◌, subst, inl, inr, arith}
use Rattle.std.specs.Prelude.{Some, None, Result, Ok, Err, All, map, slice_get}
use Rattle.std.specs.Result.{OkIff, result_ok}
use Rattle.std.proofs.lemmas.Bool.{cases_lt}
use Rattle.std.proofs.lemmas.Option.{get_or_from_slice_get, none-some, same_Some, slice_get_within}
use Rattle.cmap_runs.specs.Order.{IsFirstLeft, IsInOrder}
use Rattle.cmap_runs.specs.Ranges.{Span, Run, AreRuns, Holds, IsRun, last_index, last_of, runs_of}
use Rattle.cmap_runs.specs.Stretches.{IsLongest}
use Rattle.cmap_runs.proofs.FoundIndex.{found_index, no_index, none_last, runs_in_order}
use Rattle.cmap_runs.proofs.MaximalRuns.{AreRuns-runs_of}

pub ends_later : (runs : List Run) (code i k : ℕ) (d : Run)
    → IsInOrder runs → i ≤ k → k < length runs → code ≤ (get_or runs i d).high → code ≤ (get_or runs k d).high
ends_later runs code i k d order le lt ends = grind (arith, order.apart i k d, order.filled k d)

-- ---- no run holds a code
none_holds : (runs : List Run) (first ended code : ℕ) → IsFirstLeft runs first ended → first ≤ code
    → ((k : ℕ) (d : Run) → ended ≤ k → k < length runs → code < (get_or runs k d).low) → All (λ run. ¬ (Holds code run)) runs
none_holds runs first ended code left le later = λ k d lt holds.
    elim (cases_lt k ended) [
      | inl before ↦ (let over = left.before k d (omega arith) before in omega (arith, holds.1))
      | inr after ↦ (let to_come = later k d after lt in omega (arith, holds.0))
    ]

from_here : (runs : List Run) (ended code : ℕ) (run : Run) → IsInOrder runs → slice_get runs ended ≡ Some run → code < run.low
    → (k : ℕ) (d : Run) → ended ≤ k → k < length runs → code < (get_or runs k d).low
from_here runs ended code run order at lt k d le within =
    let here = ap (λ (r : Run). r.low) (get_or_from_slice_get runs ended run d at) in
    grind (arith, order.apart ended k d, order.filled ended d)

pub no_runs_left : {T : Type 0} (span_of : T → Span) (list : List T) (runs : List Run) (first ended code : ℕ) → runs ≡ runs_of (map span_of list)
    → IsFirstLeft runs first ended → length runs ≤ ended → first ≤ code → code < 2 ^ 32 → last_of span_of list code ≡ None
no_runs_left span_of list runs first ended code is left over le fits =
    sym (none_last span_of list list code (no_index (map span_of list) code is fits (none_holds runs first ended code left le (λ k d from within. omega arith))) refl)

pub before_run : {T : Type 0} (span_of : T → Span) (list : List T) (runs : List Run) (first ended code : ℕ) (run : Run) → runs ≡ runs_of (map span_of list)
    → IsFirstLeft runs first ended → slice_get runs ended ≡ Some run → first ≤ code → code < run.low → code < 2 ^ 32 → last_of span_of list code ≡ None
before_run span_of list runs first ended code run is left at le lt fits =
    sym (none_last span_of list list code (no_index (map span_of list) code is fits (none_holds runs first ended code left le (from_here runs ended code run (runs_in_order (map span_of list) is) at lt))) refl)

-- ---- a run holds a code
pub run_index : (spans : List Span) (runs : List Run) (i code : ℕ) (run : Run) → runs ≡ runs_of spans
    → slice_get runs i ≡ Some run → run.low ≤ code → code ≤ run.high → last_index spans code ≡ Some run.index
run_index spans runs i code run is at low high =
    found_index spans code run.index is (i, run, slice_get_within runs i run at, get_or_from_slice_get runs i run run at, ((low, high), refl))

pub at_most_its_high : (runs : List Run) (first ended : ℕ) (run : Run) → IsFirstLeft runs first ended → slice_get runs ended ≡ Some run → first ≤ run.high
at_most_its_high runs first ended run left at =
    subst (λ (r : Run). first ≤ r.high) (get_or_from_slice_get runs ended run run at) (left.after ended run (omega arith) (slice_get_within runs ended run at))

pub run_fits : (spans : List Span) (runs : List Run) (i : ℕ) (run : Run) → runs ≡ runs_of spans → slice_get runs i ≡ Some run → (run.low ≤ run.high) × (run.high < 2 ^ 32)
run_fits spans runs i run is at =
    let are = subst (AreRuns spans) (sym is) (AreRuns-runs_of spans) in
    let here = subst (IsRun (last_index spans) (2 ^ 32)) (get_or_from_slice_get runs i run run at) (are.each i run (slice_get_within runs i run at)) in
    (here.filled, here.below)

-- ---- a stretch is as long as can be
pub longest_before_run : (spans : List Span) (runs : List Run) (first ended last : ℕ) (run : Run) → runs ≡ runs_of spans
    → IsFirstLeft runs first ended → slice_get runs ended ≡ Some run → first < run.low → first < 2 ^ 32 → last + 1 ≡ run.low → IsLongest spans first last
longest_before_run spans runs first ended last run is left at lt fits next small same =
    let filled = (run_fits spans runs ended run is at).0 in
    let here = run_index spans runs ended (last + 1) run is at (omega arith) (omega arith) in
    let none = no_index spans first is fits (none_holds runs first ended first left (omega arith) (from_here runs ended first run (runs_in_order spans is) at lt)) in
    none-some run.index (sym none ∙ sym same ∙ here)

pub longest_in_run : (spans : List Span) (runs : List Run) (first i : ℕ) (run : Run) → runs ≡ runs_of spans → slice_get runs i ≡ Some run
    → run.low ≤ first → first ≤ run.high → IsLongest spans first run.high
longest_in_run spans runs first i run is at low high small same =
    let are = subst (AreRuns spans) (sym is) (AreRuns-runs_of spans) in
    let here = subst (IsRun (last_index spans) (2 ^ 32)) (get_or_from_slice_get runs i run run at) (are.each i run (slice_get_within runs i run at)) in
    here.ends small (same ∙ run_index spans runs i first run is at low high)

-- ---- what is left
pub left_before_run : (runs : List Run) (first ended : ℕ) (run : Run) → IsInOrder runs → IsFirstLeft runs first ended
    → slice_get runs ended ≡ Some run → first < run.low → run.low ≤ 2 ^ 32 → IsFirstLeft runs (run.low - 1 + 1) ended
left_before_run runs first ended run order left at lt fits = record {
  fits = omega arith;
  within = left.within;
  before = λ k d le within. let over = left.before k d le within in omega arith;
  after = λ k d le within.
      let begins = from_here runs ended (run.low - 1) run order at (omega arith) k d le within in
      let filled = order.filled k d within in omega arith;
}

pub left_after_run : (runs : List Run) (first ended : ℕ) (run : Run) → IsInOrder runs → IsFirstLeft runs first ended
    → slice_get runs ended ≡ Some run → first ≤ run.high → run.high < 2 ^ 32 → IsFirstLeft runs (run.high + 1) (ended + 1)
left_after_run runs first ended run order left at le fits = record {
  fits = omega arith;
  within = let within = slice_get_within runs ended run at in omega arith;
  before = λ k d from within.
      elim (cases_lt k ended) [
        | inl before ↦ (let over = left.before k d from before in omega arith)
        | inr here ↦ (let same : k ≡ ended = omega arith in
            let is = ap (λ (r : Run). r.high) (ap (λ i. get_or runs i d) same ∙ get_or_from_slice_get runs ended run d at) in omega arith)
      ];
  after = λ k d from within.
      let is = ap (λ (r : Run). r.high) (get_or_from_slice_get runs ended run d at) in
      let apart = order.apart ended k d (omega arith) within in
      let filled = order.filled k d within in omega arith;
}

-- and none is left up to the end of all codes
pub left_at_end : (runs : List Run) (code ended : ℕ) → IsFirstLeft runs code ended → length runs ≤ ended → IsFirstLeft runs (2 ^ 32 - 1 + 1) ended
left_at_end runs code ended left all = record {
  fits = omega arith;
  within = left.within;
  before = λ k d from lt. omega (arith, left.before k d from lt, left.fits);
  after = λ k d from lt. absurd (omega arith);
}

-- ---- the next code, as a number of 32 bits
pub code_fits : {E : Type 0} (n code : ℕ) (r : Result ℕ E) → OkIff r (n < 2 ^ 32) n → Some code ≡ result_ok r → code ≡ n
code_fits n code (Ok x) fits is = same_Some code x is ∙ fits.1
code_fits n code (Err e) fits is = absurd (cc)

pub past_codes : {E : Type 0} (n : ℕ) (r : Result ℕ E) → OkIff r (n < 2 ^ 32) n → None ≡ result_ok r → 2 ^ 32 ≤ n
past_codes n (Ok x) fits none = absurd (cc)
past_codes n (Err e) fits none = elim (cases_lt n (2 ^ 32)) [ inl below ↦ absurd (fits below) | inr past ↦ past ]
