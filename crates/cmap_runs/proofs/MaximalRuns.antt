-- Lists of all runs below a limit: how they grow with the limit, and that there is one for each limit.
use Rattle.std.proofs.Common.{◌≡◌, ℕ, zero, suc, ◌+◌, ◌-◌, ◌<◌, ◌≤◌, ◌^◌, true, false, true≢false, ◌⊎◌, List, [], ◌∷◌, ◌++◌, length, get_or, set, take, Option, add-one, refl, sym, ap, ◌∙◌, subst, inl, inr, arith}
use Rattle.std.specs.Prelude.{Some, None, All, Any, slice_get}
use Rattle.std.specs.List.{Contains}
use Rattle.std.proofs.lemmas.Bool.Decides.{nat_tests}
use Rattle.std.proofs.lemmas.Bool.{cases_lt, cond_both}
use Rattle.std.proofs.lemmas.List.Elements.{All-nil, All-push, All-pop, All-weaker, Contains-append_left, Contains-push_cases}
use Rattle.std.proofs.lemmas.List.{get_or_append_left, get_or_push, length_push, length-take-le, take_all, take_more, set_at}
use Rattle.std.proofs.lemmas.List.Quantifiers.{Any-push, all_pairs_push}
use Rattle.std.proofs.lemmas.Option.{same_Some, get_or_from_slice_get, slice_get_within, slice_get-get_or}
use Rattle.cmap_runs.specs.Order.{IsInOrder}
use Rattle.cmap_runs.specs.Ranges.{Run, Holds, IsRun, AreRunsBelow, goes_on, joined, with_code, runs_below, Span, AreRuns, last_index, runs_of}

pub Any-old : {X : Type 0} (P : X → Type 0) (xs : List X) (y : X) → Any P xs → Any P (xs ++ y ∷ [])
Any-old P xs y found =
    let in_both = Contains-append_left xs (y ∷ []) found.1 (found.0, found.2, found.3) in (in_both.0, found.1, in_both.1, in_both.2, found.4)

pub AreRunsBelow-none : (decides : ℕ → Option ℕ) → AreRunsBelow decides 0 []
AreRunsBelow-none decides = record { each = All-nil (IsRun decides 0); ordered = λ i j d lt within. absurd (omega arith); complete = λ code below. absurd (omega arith) }

-- codes that no declaration decides add nothing
pub AreRunsBelow-gap : (decides : ℕ → Option ℕ) (from to : ℕ) (runs : List Run)
    → AreRunsBelow decides from runs → from ≤ to → ((code : ℕ) → from ≤ code → code < to → decides code ≡ None) → AreRunsBelow decides to runs
AreRunsBelow-gap decides from to runs are le none = record {
  each = All-weaker (IsRun decides from) (IsRun decides to) (λ run is. record {
    filled = is.filled;
    below = omega (arith, is.below);
    right = is.right;
    begins = is.begins;
    ends = λ within same. grind (arith, is.ends, none (run.high + 1));
  }) runs are.each;
  ordered = are.ordered;
  complete = λ code below some.
      elim (cases_lt code from) [
        | inl old ↦ are.complete code old some
        | inr new ↦ absurd (grind (arith, none code))
      ];
}

-- a run at the end
AreRunsBelow-push : (decides : ℕ → Option ℕ) (runs : List Run) (run : Run)
    → AreRunsBelow decides run.low runs → IsRun decides (run.high + 1) run → AreRunsBelow decides (run.high + 1) (runs ++ run ∷ [])
AreRunsBelow-push decides runs run are is = record {
  each = All-push (IsRun decides (run.high + 1)) runs run (All-weaker (IsRun decides run.low) (IsRun decides (run.high + 1)) (λ old was. record {
    filled = was.filled;
    below = omega (arith, was.below, is.filled);
    right = was.right;
    begins = was.begins;
    ends = λ within same. grind (arith, was.ends, was.below, was.filled, was.right old.high, is.begins old.high, is.right run.low, is.filled);
  }) runs are.each) is;
  ordered = all_pairs_push (λ (run later : Run). run.high < later.low) runs run are.ordered (λ k d lt. (are.each k d lt).below);
  complete = λ code below some.
      elim (cases_lt code run.low) [
        | inl old ↦ Any-old (Holds code) runs run (are.complete code old some)
        | inr new ↦ Any-push (Holds code) runs run (new, omega arith)
      ];
}

-- without its last run
AreRunsBelow-pop : (decides : ℕ → Option ℕ) (limit : ℕ) (runs : List Run) (last : Run)
    → AreRunsBelow decides limit (runs ++ last ∷ []) → IsRun decides limit last × AreRunsBelow decides last.low runs
AreRunsBelow-pop decides limit runs last are =
    let is = All-pop (IsRun decides limit) _ runs (Some last) refl are.each in
    let count : length (runs ++ last ∷ []) ≡ length runs + 1 = length_push runs last in (
      is.1,
      record {
        each = λ i d lt. let was = is.0 i d lt in record {
          filled = was.filled;
          below = grind (arith, are.ordered i (length runs) d, get_or_append_left runs (last ∷ []) d i, get_or_push runs last d (length runs) refl);
          right = was.right;
          begins = was.begins;
          ends = λ within. was.ends (omega (arith, is.1.below, is.1.filled));
        };
        ordered = λ i j d lt within. grind (arith, are.ordered i j d lt, get_or_append_left runs (last ∷ []) d i, get_or_append_left runs (last ∷ []) d j);
        complete = λ code below some.
            let found = are.complete code (omega (arith, is.1.below, is.1.filled)) some in
            elim (Contains-push_cases runs last found.1 (found.0, found.2, found.3)) [
              | inl old ↦ (old.0, found.1, old.1, old.2, found.4)
              | inr here ↦ absurd (omega (arith, ap (λ (run : Run). run.low) here, found.4.0))
            ];
      },
    )

-- a list with a last element
last_split : {X : Type 0} (xs : List X) (last : X) → slice_get xs (length xs - 1) ≡ Some last
    → (front : List X) × (xs ≡ front ++ last ∷ []) × (length front ≡ length xs - 1)
last_split xs last at =
    let lt = slice_get_within xs (length xs - 1) last at in
    let all : take (length xs - 1 + 1) xs ≡ xs = take_all (length xs - 1 + 1) xs (omega arith) in (
      take (length xs - 1) xs,
      sym all ∙ take_more xs (length xs - 1) last lt ∙ ap (λ x. take (length xs - 1) xs ++ x ∷ []) (get_or_from_slice_get xs (length xs - 1) last last at),
      length-take-le (length xs - 1) xs (omega arith),
    )

some_goes_on : (runs : List Run) (run : Run) → goes_on (slice_get runs (length runs - 1)) run ≡ true → length runs - 1 < length runs
some_goes_on [] run on = absurd (true≢false (sym on))
some_goes_on (first ∷ rest) run on = omega arith

-- a run that doesn't go on from the last one
joined_pushed : (decides : ℕ → Option ℕ) (runs : List Run) (run : Run)
    → AreRunsBelow decides run.low runs → run.low ≤ run.high
    → ((code : ℕ) → run.low ≤ code → code ≤ run.high → decides code ≡ Some run.index)
    → goes_on (slice_get runs (length runs - 1)) run ≡ false → AreRunsBelow decides (run.high + 1) (runs ++ run ∷ [])
joined_pushed decides runs run are filled right apart =
    AreRunsBelow-push decides runs run are (record {
      filled = filled;
      below = omega arith;
      right = right;
      begins = λ code before same.
          let found = are.complete code (omega arith) (rw same refl) in
          let last = found.1 in
          let is = subst (IsRun decides run.low) found.3 (are.each found.0 last found.2) in
          let at_end : found.0 ≡ length runs - 1 =
          elim (cases_lt (found.0 + 1) (length runs)) [
            | inl more ↦
                let next = are.each (found.0 + 1) last more in
                absurd (omega (arith, are.ordered found.0 (found.0 + 1) last (omega arith) more, ap (λ (r : Run). r.high) found.3, found.4.1, next.filled, next.below))
            | inr none ↦ omega (arith, found.2)
          ]
          in
          let at : slice_get runs (length runs - 1) ≡ Some last = grind (arith, slice_get-get_or runs found.0 last, found.2, found.3) in
          let ends : goes_on (Some last) run ≡ false = rw at at apart in
          grind (arith, nat_tests, is.right code, is.below, found.4);
      ends = λ within. absurd (omega arith);
    })

joined_on : (decides : ℕ → Option ℕ) (runs : List Run) (run last : Run) → slice_get runs (length runs - 1) ≡ Some last → goes_on (Some last) run ≡ true
    → AreRunsBelow decides run.low runs → run.low ≤ run.high
    → ((code : ℕ) → run.low ≤ code → code ≤ run.high → decides code ≡ Some run.index)
    → AreRunsBelow decides (run.high + 1) (set runs (length runs - 1) (record last { high = run.high }))
joined_on decides runs run last at on are filled right =
    let longer : Run = record last { high = run.high } in
    let split = last_split runs last at in
    let index : last.index ≡ run.index = grind (arith, nat_tests) in let next : last.high + 1 ≡ run.low = grind (arith, nat_tests) in
    let parts = AreRunsBelow-pop decides run.low split.0 last (subst (AreRunsBelow decides run.low) split.1 are) in
    subst (AreRunsBelow decides (run.high + 1))
    (sym (ap (λ runs. set runs (length split.0) longer) split.1 ∙ set_at split.0 last [] longer (length split.0) refl)
    ∙ ap (λ n. set runs n longer) split.2)
    (AreRunsBelow-push decides split.0 longer parts.1 (record {
      filled = omega (arith, parts.0.filled);
      below = omega arith;
      right = λ code low high.
          elim (cases_lt last.high code) [ inl after ↦ right code (omega arith) high ∙ ap Some (sym index) | inr within ↦ parts.0.right code low within ];
      begins = parts.0.begins;
      ends = λ within. absurd (omega arith);
    }))

pub AreRunsBelow-joined : (decides : ℕ → Option ℕ) (runs : List Run) (run : Run)
    → AreRunsBelow decides run.low runs → run.low ≤ run.high
    → ((code : ℕ) → run.low ≤ code → code ≤ run.high → decides code ≡ Some run.index) → AreRunsBelow decides (run.high + 1) (joined runs run)
AreRunsBelow-joined decides runs run are filled right =
    cond_both (goes_on (slice_get runs (length runs - 1)) run) _ _ (AreRunsBelow decides (run.high + 1)) (λ on.
    let last = get_or runs (length runs - 1) run in
    let at : slice_get runs (length runs - 1) ≡ Some last = slice_get-get_or runs (length runs - 1) run (some_goes_on runs run on) in
    joined_on decides runs run last at (rw at at on) are filled right) (λ apart. joined_pushed decides runs run are filled right apart)

-- ---- one list for each limit
with_code_one : (decides : ℕ → Option ℕ) (code : ℕ) (runs : List Run) (o : Option ℕ)
    → AreRunsBelow decides code runs → decides code ≡ o → AreRunsBelow decides (suc code) (with_code runs code o)
with_code_one decides code runs None are is = AreRunsBelow-gap decides code (suc code) runs are (omega arith) (λ other low high. grind arith)
with_code_one decides code runs (Some index) are is =
    rw (← add-one code) (AreRunsBelow-joined decides runs (record { low = code; high = code; index = index }) are (omega arith) (λ other low high. grind arith))

AreRunsBelow-runs_below : (decides : ℕ → Option ℕ) (limit : ℕ) → AreRunsBelow decides limit (runs_below decides limit)
unfolding runs_below
AreRunsBelow-runs_below decides zero = AreRunsBelow-none decides
AreRunsBelow-runs_below decides (suc code) = with_code_one decides code (runs_below decides code) (decides code) (AreRunsBelow-runs_below decides code) refl

-- two runs that hold one code
one_run : (decides : ℕ → Option ℕ) (limit : ℕ) (run other : Run) (code : ℕ)
    → IsRun decides limit run → IsRun decides limit other → Holds code run → Holds code other → run ≡ other
one_run decides limit run other code is was here there =
    let index : run.index ≡ other.index = same_Some _ _ (sym (is.right code here.0 here.1) ∙ was.right code there.0 there.1) in
    let low : run.low ≡ other.low = grind (arith, is.begins (run.low - 1), was.right (run.low - 1), was.begins (other.low - 1), is.right (other.low - 1)) in
    let high : run.high ≡ other.high = grind (arith, is.ends, was.right (run.high + 1), was.ends, is.right (other.high + 1), is.below, was.below) in
    grind arith

is_among : (decides : ℕ → Option ℕ) (limit : ℕ) (runs : List Run) (run : Run) → AreRunsBelow decides limit runs → IsRun decides limit run → Contains runs run
is_among decides limit runs run are is =
    let found = are.complete run.low (omega (arith, is.filled, is.below)) (rw (is.right run.low (omega arith) is.filled) refl) in
    let same = one_run decides limit found.1 run run.low (subst (IsRun decides limit) found.3 (are.each found.0 found.1 found.2)) is found.4 (omega arith, is.filled) in
    subst (Contains runs) same (found.0, found.2, found.3)

-- ---- lists in order with the same elements
first_or_later : (run other : Run) (others : List Run) (k : ℕ) → IsInOrder (other ∷ others)
    → k < length (other ∷ others) → get_or (other ∷ others) k run ≡ run → (other ≡ run) ⊎ (other.high < run.low)
first_or_later run other others zero order lt is = inl is
first_or_later run other others (suc k) order lt is = inr (subst (λ (r : Run). other.high < r.low) is (order.apart 0 (suc k) run (omega arith) lt))

later_among : (run later : Run) (others : List Run) (k : ℕ) → run.low ≤ run.high → run.high < later.low
    → k < length (run ∷ others) → get_or (run ∷ others) k later ≡ later → Contains others later
later_among run later others zero filled after lt is = absurd (omega (arith, ap (λ (r : Run). r.low) is))
later_among run later others (suc k) filled after lt is = (k, omega arith, is)

rest_among : (run : Run) (runs others : List Run) → IsInOrder (run ∷ runs) → All (Contains (run ∷ others)) (run ∷ runs) → All (Contains others) runs
rest_among run runs others order among = λ k d lt.
    let at = among (suc k) d (omega arith) in
    later_among run (get_or runs k d) others at.0 (order.filled 0 run (omega arith)) (order.apart 0 (suc k) d (omega arith) (omega arith)) at.1 at.2

rest_in_order : (run : Run) (runs : List Run) → IsInOrder (run ∷ runs) → IsInOrder runs
rest_in_order run runs order = record {
  filled = λ k d lt. order.filled (suc k) d (omega arith);
  apart = λ i j d lt within. order.apart (suc i) (suc j) d (omega arith) (omega arith);
}

same_in_order : (runs others : List Run) → IsInOrder runs → IsInOrder others → All (Contains others) runs → All (Contains runs) others → runs ≡ others
same_in_order [] [] order order_too in_others in_runs = refl
same_in_order [] (other ∷ others) order order_too in_others in_runs = absurd (omega (arith, (in_runs 0 other (omega arith)).1))
same_in_order (run ∷ runs) [] order order_too in_others in_runs = absurd (omega (arith, (in_others 0 run (omega arith)).1))
same_in_order (run ∷ runs) (other ∷ others) order order_too in_others in_runs =
    let at = in_others 0 run (omega arith) in let at_other = in_runs 0 other (omega arith) in
    let first : run ≡ other =
    grind (arith, first_or_later run other others at.0 order_too at.1 at.2, first_or_later other run runs at_other.0 order at_other.1 at_other.2, order.filled 0 run, order_too.filled 0 other) in
    let rest : runs ≡ others =
    same_in_order runs others (rest_in_order run runs order) (rest_in_order other others order_too)
    (rest_among run runs others order (subst (λ r. All (Contains (r ∷ others)) (run ∷ runs)) (sym first) in_others))
    (rest_among other others runs order_too (subst (λ r. All (Contains (r ∷ runs)) (other ∷ others)) first in_runs))
    in cc

pub in_order : (decides : ℕ → Option ℕ) (limit : ℕ) (runs : List Run) → AreRunsBelow decides limit runs → IsInOrder runs
in_order decides limit runs are = record { filled = λ k d lt. (are.each k d lt).filled; apart = are.ordered }

AreRunsBelow-unique : (decides : ℕ → Option ℕ) (limit : ℕ) (runs others : List Run)
    → AreRunsBelow decides limit runs → AreRunsBelow decides limit others → runs ≡ others
AreRunsBelow-unique decides limit runs others are were =
    same_in_order runs others (in_order decides limit runs are) (in_order decides limit others were)
    (λ k d lt. is_among decides limit others _ were (are.each k d lt)) (λ k d lt. is_among decides limit runs _ are (were.each k d lt))

pub AreRuns-runs_of : (spans : List Span) → AreRuns spans (runs_of spans)
AreRuns-runs_of spans = AreRunsBelow-runs_below (last_index spans) (2 ^ 32)

pub runs_of-unique : (spans : List Span) (runs : List Run) → AreRuns spans runs → runs ≡ runs_of spans
runs_of-unique spans runs are = AreRunsBelow-unique (last_index spans) (2 ^ 32) runs (runs_of spans) are (AreRuns-runs_of spans)
