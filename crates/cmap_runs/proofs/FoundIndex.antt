-- What a search of the runs tells of the declarations.
use Rattle.std.proofs.Common.{◌≡◌, ℕ, ◌+◌, ◌-◌, ◌*◌, ◌/◌, ◌%◌, ◌<◌, ◌≤◌, ◌^◌, List, length, get_or, Option, refl, sym, ap, ◌∙◌, subst, inl, inr, arith, true, false}
use Rattle.std.specs.Prelude.{Some, None, IfNone, IfSome, IsSome, All, Any, if◌then◌else◌, is_some, map, option_map, slice_get}
use Rattle.std.specs.Borrow.{Bor}
use Rattle.std.proofs.lemmas.Bool.{cases_lt}
use Rattle.std.proofs.lemmas.List.{length-map}
use Rattle.std.proofs.lemmas.Option.{get_or_from_slice_get, same_Some, slice_get-map, slice_get_within}
use Rattle.cmap_runs.specs.Blocks.{AreBlocks, MayHold, begun_by}
use Rattle.cmap_runs.specs.DeclaredRanges.{DecidedRuns}
use Rattle.cmap_runs.specs.HeldRuns.{EndsBefore, Reaches}
use Rattle.cmap_runs.specs.declared.runs.blocks.Block.{Block}
use Rattle.cmap_runs.specs.declared.runs.held.Blocks.{Blocks}
use Rattle.cmap_runs.specs.declared.runs.looks.Looks.{Looks}
use Rattle.cmap_runs.specs.Order.{IsInOrder}
use Rattle.cmap_runs.specs.Ranges.{Span, Run, Holds, IsRun, AreRuns, contains, digits, last_of, last_index, runs_of}
use Rattle.cmap_runs.specs.SearchLooks.{FindsLast, LooksAtMost}
use Rattle.cmap_runs.proofs.BinaryDigits.{digits_half}
use Rattle.cmap_runs.proofs.LastIndex.{ContainsAt, IsLast, is_last}
use Rattle.cmap_runs.proofs.MaximalRuns.{AreRuns-runs_of, in_order}
use Rattle.cmap_runs.proofs.RunsInOrder.{after_earlier}

are_runs : (spans : List Span) (runs : List Run) → runs ≡ runs_of spans → AreRuns spans runs
are_runs spans runs is = subst (AreRuns spans) (sym is) (AreRuns-runs_of spans)

pub runs_in_order : (spans : List Span) {runs : List Run} → runs ≡ runs_of spans → IsInOrder runs
runs_in_order spans {runs} is = in_order (last_index spans) (2 ^ 32) runs (are_runs spans runs is)

pub found_index : (spans : List Span) {runs : List Run} (code index : ℕ)
    → runs ≡ runs_of spans → Any (λ run. Holds code run × (run.index ≡ index)) runs → last_index spans code ≡ Some index
found_index spans {runs} code index is found =
    let run = subst (IsRun (last_index spans) (2 ^ 32)) found.3 ((are_runs spans runs is).each found.0 found.1 found.2) in
    run.right code found.4.0.0 found.4.0.1 ∙ ap Some found.4.1

none_found : (runs : List Run) (code : ℕ) (o : Option ℕ) → (IsSome o → Any (Holds code) runs) → All (λ run. ¬ (Holds code run)) runs → o ≡ None
none_found runs code None complete none = refl
none_found runs code (Some index) complete none = let found = complete refl in absurd (subst (λ (run : Run). ¬ (Holds code run)) found.3 (none found.0 found.1 found.2) found.4)

pub no_index : (spans : List Span) {runs : List Run} (code : ℕ) → runs ≡ runs_of spans → code < 2 ^ 32 → All (λ run. ¬ (Holds code run)) runs → last_index spans code ≡ None
no_index spans {runs} code is below none = none_found runs code (last_index spans code) ((are_runs spans runs is).complete code below) none

found_at : {T : Type 0} (span_of : T → Span) (list : List T) (code index : ℕ) → last_index (map span_of list) code ≡ Some index → ContainsAt (map span_of list) code index
found_at span_of list code index is = (subst (IsLast (map span_of list) code) is (is_last (map span_of list) code)).0

pub found_within : {T : Type 0} (span_of : T → Span) (list : List T) (code index : ℕ) → last_index (map span_of list) code ≡ Some index → index < length list
found_within span_of list code index is =
    let at = found_at span_of list code index is in omega (arith, slice_get_within (map span_of list) index at.0 at.1, length-map list span_of)

pub found_contains : {T : Type 0} (span_of : T → Span) (list : List T) (code index : ℕ) (x : T)
    → last_index (map span_of list) code ≡ Some index → slice_get list index ≡ Some x → contains (span_of x) code ≡ true
found_contains span_of list code index x is at =
    let found = found_at span_of list code index is in
    subst (λ s. contains s code ≡ true) (same_Some _ _ (sym found.1 ∙ slice_get-map span_of list index ∙ ap (option_map span_of) at)) found.2

-- a declaration is at the index of each run
pub each_index : {T : Type 0} (span_of : T → Span) (list : List T) {runs : List Run} → runs ≡ runs_of (map span_of list) → All (λ run. run.index < length list) runs
each_index span_of list {runs} is = λ k d lt.
    let run = (are_runs (map span_of list) runs is).each k d lt in let low = (get_or runs k d).low in
    found_within span_of list low (get_or runs k d).index (run.right low (omega arith) run.filled)

pub found_last : {T : Type 0} (span_of : T → Span) (list now : List T) (code index : ℕ) (x : T)
    → last_index (map span_of list) code ≡ Some index → slice_get list index ≡ Some x → list ≡ now → Some x ≡ last_of span_of now code
found_last span_of list now code index x is at view = rw (← view, is) (sym at)

pub none_last : {T : Type 0} (span_of : T → Span) (list now : List T) (code : ℕ) → last_index (map span_of list) code ≡ None → list ≡ now → None ≡ last_of span_of now code
none_last span_of list now code is view = rw (← view, is) refl

-- ---- the last run that begins up to and including a code
pub none_past : (runs : List Run) (code end : ℕ) → All (λ run. run.high < end) runs → end ≤ code → All (λ run. ¬ (Holds code run)) runs
none_past runs code end before past = λ k d within held. omega (arith, before k d within, held.1)

pub none_begun : (runs : List Run) (code begun : ℕ) → MayHold runs code begun → begun ≡ 0 → All (λ run. ¬ (Holds code run)) runs
none_begun runs code begun may none = λ k d within. may.after k d (omega arith) within

pub none_at_last : (runs : List Run) (code begun : ℕ) (run : Run) → IsInOrder runs → MayHold runs code begun → 0 < begun
    → slice_get runs (begun - 1) ≡ Some run → run.high < code → All (λ run. ¬ (Holds code run)) runs
none_at_last runs code begun run order may some is past = λ k d within held.
    elim (cases_lt k begun) [
      | inl before ↦
          let last : (get_or runs (begun - 1) d).high < code = subst (λ (run : Run). run.high < code) (sym (get_or_from_slice_get runs (begun - 1) run d is)) past in
          omega (arith, after_earlier runs code (begun - 1) k d order (omega arith) (omega (arith, may.within)) last, held.1)
      | inr after ↦ may.after k d after within held
    ]

pub may_hold_in : (runs : List Run) (blocks : Blocks) (code begun : ℕ) (block : Block) → AreBlocks runs blocks
    → (code / 32 < length blocks.list.items) × (block ≡ get_or blocks.list.items (code / 32) block) → begun ≡ begun_by block (code % 32) → MayHold runs code begun
may_hold_in runs blocks code begun block are (within, is) begins =
    let place = code % 32 in
    let parts : 32 * (code / 32) + place ≡ code = omega arith in
    subst (MayHold runs code) (ap (λ b. begun_by b place) (sym is) ∙ sym begins)
    (subst (λ n. MayHold runs n (begun_by (get_or blocks.list.items (code / 32) block) place)) parts (are.each (code / 32) place block within (omega arith)))

found_at_last : (runs : List Run) (code begun : ℕ) (run : Run) → MayHold runs code begun → 0 < begun
    → slice_get runs (begun - 1) ≡ Some run → code ≤ run.high → Any (λ found. Holds code found × (found.index ≡ run.index)) runs
found_at_last runs code begun run may some is within =
    let last = get_or_from_slice_get runs (begun - 1) run run is in
    let begins : run.low ≤ code = subst (λ (run : Run). run.low ≤ code) last (may.before (begun - 1) run (omega arith) (omega arith)) in
    (begun - 1, run, omega (arith, may.within), last, ((begins, within), refl))

-- one look is fewer than the number of runs has digits
pub one_look : (runs most begun : ℕ) → runs ≡ most → 0 < begun → begun ≤ runs → 1 ≤ digits most
one_look runs most begun same some within = omega (arith, digits_half runs 0 (omega arith) (omega arith), ap digits same)

-- no more runs are looked at than may be, and none is found
pub none_looked_up : (old new : Looks) (most runs : ℕ) → new.runs ≤ old.runs + most → most ≡ runs → old.runs ≤ new.runs → new.declarations ≡ old.declarations
    → LooksAtMost old new runs 1 false
none_looked_up old new most runs bound same grows declarations = record {
  most_runs = omega (arith, bound, same);
  some_run = omega (arith, grows);
  most_declarations = omega (arith, declarations);
  some_declaration = omega (arith, declarations);
}

-- or one is, and its declaration is looked at
pub one_found : (old now new : Looks) (most runs : ℕ) → now.runs ≤ old.runs + most → most ≡ runs → old.runs + 1 ≤ now.runs → now.declarations ≡ old.declarations
    → new.runs ≡ now.runs → new.declarations ≡ now.declarations + 1 → LooksAtMost old new runs 1 true
one_found old now new most runs bound same grows declarations runs_now declarations_now = record {
  most_runs = omega (arith, bound, same, runs_now);
  some_run = omega (arith, grows, runs_now);
  most_declarations = omega (arith, declarations, declarations_now);
  some_declaration = omega (arith, declarations, declarations_now);
}

-- nothing is looked at, and nothing is found
pub none_looked : (looks : Looks) (runs : ℕ) → LooksAtMost looks looks runs 1 false
none_looked looks runs = record { most_runs = omega arith; some_run = omega arith; most_declarations = omega arith; some_declaration = omega arith }

-- nothing is looked at but a block, in which no run holds the code
pub none_in_block : {T : Type 0} (span_of : T → Span) (held : DecidedRuns T) (code begun : ℕ) (old new : Looks) → held.runs ≡ runs_of (map span_of held.declarations) → code < 2 ^ 32 → MayHold held.runs code begun → begun ≡ 0 → 0 < length held.runs
    → new.runs ≡ old.runs + 1 → new.declarations ≡ old.declarations → FindsLast span_of held.declarations code old new None
none_in_block span_of held code begun old new are fits may nothing some looked looked_too = record {
  found = none_last span_of held.declarations held.declarations code (no_index (map span_of held.declarations) code are fits (none_begun held.runs code begun may nothing)) refl;
  contains = tt;
  looks = none_looked_up old new _ _ (omega (arith, looked, one_look (length held.runs) _ 1 (ap length are) (omega arith) (omega (arith, some)))) refl (omega (arith, looked)) looked_too;
  no_declaration = looked_too;
}

-- the last run that begins up to and including the code holds it, or none does
pub at_last : {T : Type 0} (span_of : T → Span) (held : DecidedRuns T) (now : List T) (code begun : ℕ) (old new : Looks) (result : Option (Bor T))
    → held.runs ≡ runs_of (map span_of held.declarations) → held.declarations ≡ now → code < 2 ^ 32 → MayHold held.runs code begun → 0 < begun
    → IfNone result (EndsBefore held.runs (begun - 1) code) → IfSome result (λ declaration. Reaches held (begun - 1) code declaration.now)
    → new.runs ≡ old.runs + 1 → new.declarations ≡ old.declarations + (if is_some result then 1 else 0) → FindsLast span_of now code old new result
at_last span_of held now code begun old new None are view fits may some ends reaches looked looked_too =
    let spans = map span_of held.declarations in
    let none = none_at_last held.runs code begun ends.run (runs_in_order spans are) may some ends.at ends.ends in
    let same = ap length are ∙ ap (λ list. length (runs_of (map span_of list))) view in
    record {
      found = none_last span_of held.declarations now code (no_index spans code are fits none) view;
      contains = tt;
      looks = none_looked_up old new _ _ (omega (arith, looked, one_look _ _ _ same some may.within)) refl (omega (arith, looked)) (omega (arith, looked_too));
      no_declaration = omega (arith, looked_too);
    }
at_last span_of held now code begun old new (Some declaration) are view fits may some ends reaches looked looked_too =
    let list = held.declarations in let index = reaches.run.index in
    let last = found_index (map span_of list) code index are (found_at_last held.runs code begun reaches.run may some reaches.at reaches.reaches) in
    let same = ap length are ∙ ap (λ list. length (runs_of (map span_of list))) view in
    record {
      found = found_last span_of list now code index declaration.now last reaches.decides view;
      contains = found_contains span_of list code index declaration.now last reaches.decides;
      looks = record {
        most_runs = omega (arith, looked, one_look _ _ _ same some may.within);
        some_run = omega (arith, looked);
        most_declarations = omega (arith, looked_too);
        some_declaration = omega (arith, looked_too);
      };
      no_declaration = tt;
    }
