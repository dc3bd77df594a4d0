-- The first and the last of the codes that runs give to a key.
use Rattle.std.proofs.Common.{◌≡◌, ℕ, ◌+◌, ◌-◌, ◌^◌, ◌<◌, ◌≤◌, true, All, List, map, get_or, Option, Some, None, refl, sym, ap, ◌∙◌, subst, inl, inr, arith}
use Rattle.std.specs.Prelude.{◌&&◌, nat_le, Any, option_and_then, option_map, slice_get}
use Rattle.std.specs.List.Sorted.{IsNonDecreasingBy, IsPermutation}
use Rattle.std.proofs.lemmas.Bool.{cases_order, le-leb}
use Rattle.std.proofs.lemmas.Bool.Decides.{nat_tests}
use Rattle.std.proofs.lemmas.List.Sorted.{Contains-permutation, IsPermutation-sym}
use Rattle.std.proofs.lemmas.Option.{get_or_from_slice_get, none-some, same_Some, slice_get-get_or, slice_get-map, slice_get_within}
use Rattle.cmap_runs.specs.Stretches.{IsStretch}
use Rattle.cmap_runs.specs.Ranges.{contains, last_index, last_of}
use Rattle.cmap_runs.proofs.LastIndex.{IsLast, is_last}
use Rattle.cmap_values.specs.CodeLengths.{length_of}
use Rattle.cmap_values.specs.declared.code_length.CodeLength.{CodeLength}
use Rattle.cmap_values.specs.declared.code_length.CodeLength.TheVariants.{One, Two, Three, Four}
use Rattle.cmap_encode.specs.CodeRuns.{run_span}
use Rattle.cmap_encode.specs.Codes.{bytes_of, code_bytes}
use Rattle.cmap_encode.specs.Strings.{IsNotAfter}
use Rattle.cmap_encode.specs.KeyCodesSeen.{AreFirsts, AreLasts, Gives, IsCodeRun, IsKeyStretch, code_at, code_for, lateness_of, precedence_of}
use Rattle.cmap_encode.specs.Ranks.{Candidate, IsFirstBy, IsNoLater, candidate_of, place_of}
use Rattle.cmap_encode.specs.declared.key_codes.CodeRun.{CodeRun}
use Rattle.cmap_encode.specs.declared.rank.Rank.{Rank}
use Rattle.cmap_encode.specs.declared.rank.Rank.TheVariants.{Stated, OwnForm, Canonical, Collection}
use Rattle.cmap_encode.specs.declared.rank.Ranked.{Ranked}
use Rattle.cmap_encode.proofs.Numbers.{are_bytes_of, code_count, code_string, lesser_first}
use Rattle.cmap_encode.proofs.Order.{not_after_itself}

-- ---- of two runs that have a key, the one of the higher precedence gives the earlier code, and the later one the later code
pub code_fits : (run : CodeRun) (key : ℕ) → IsCodeRun run → run.range.start ≤ key → key ≤ run.range.end → (code_at run key).code.number < 256 ^ length_of run.first.code.len
code_fits run key is from to = omega (arith, is.fits)

below_length : (len : CodeLength) (number : ℕ) → number < 256 ^ length_of len → (number < 2 ^ 32) × (1 ≤ length_of len) × (length_of len ≤ 4)
below_length One number fits = (omega arith, omega arith, omega arith)
below_length Two number fits = (omega arith, omega arith, omega arith)
below_length Three number fits = (omega arith, omega arith, omega arith)
below_length Four number fits = (omega arith, omega arith, omega arith)

few_places : (rank : Rank) → place_of rank ≤ 3
few_places Stated = omega arith
few_places OwnForm = omega arith
few_places Canonical = omega arith
few_places Collection = omega arith

-- of two runs that have a key, the later one gives the later code
pub later_last : (first other : CodeRun) (key : ℕ) → IsCodeRun first → IsCodeRun other → first.range.start ≤ key → key ≤ first.range.end → other.range.start ≤ key → key ≤ other.range.end → lateness_of first ≤ lateness_of other
    → IsNotAfter (code_bytes (code_at first key).code) (code_bytes (code_at other key).code)
later_last first other key is is_too from to from_too to_too lateness =
    let few = below_length first.first.code.len (code_at first key).code.number (code_fits first key is from to) in
    let few_too = below_length other.first.code.len (code_at other key).code.number (code_fits other key is_too from_too to_too) in
    let count = code_count (code_at first key).code in
    let count_too = code_count (code_at other key).code in
    let first_keys = is.keys in
    let other_keys = is_too.keys in
    elim (cases_order (length_of first.first.code.len) (length_of other.first.code.len)) [
      | inl same ↦
          elim (cases_order (code_at first key).code.number (code_at other key).code.number) [
            | inl equal ↦
                let bytes : code_bytes (code_at first key).code ≡ code_bytes (code_at other key).code = ap (λ len. bytes_of len (code_at first key).code.number) same ∙ ap (bytes_of (length_of other.first.code.len)) equal in
                subst (IsNotAfter (code_bytes (code_at first key).code)) bytes (not_after_itself (code_bytes (code_at first key).code))
            | inr (inl less) ↦
                let writes = (are_bytes_of first.first.code.len (code_at first key).code.number (code_fits first key is from to)).writes in
                let writes_too = (are_bytes_of other.first.code.len (code_at other key).code.number (code_fits other key is_too from_too to_too)).writes in
                lesser_first (code_bytes (code_at first key).code) (code_bytes (code_at other key).code) (code_string (code_at first key).code) (code_string (code_at other key).code) (count ∙ same ∙ sym count_too) (omega (arith, writes, writes_too))
            | inr (inr more) ↦ absurd (omega (arith, same, lateness))
          ]
      | inr (inl shorter) ↦ inl (omega (arith, count, count_too))
      | inr (inr longer) ↦ absurd (omega (arith, lateness))
    ]

pub higher_first : (first other : CodeRun) (key : ℕ) → IsCodeRun first → IsCodeRun other → first.range.start ≤ key → key ≤ first.range.end → other.range.start ≤ key → key ≤ other.range.end → precedence_of other ≤ precedence_of first
    → IsNoLater (candidate_of (code_at first key)) (candidate_of (code_at other key))
higher_first first other key is is_too from to from_too to_too precedence =
    let few = below_length first.first.code.len (code_at first key).code.number (code_fits first key is from to) in
    let few_too = below_length other.first.code.len (code_at other key).code.number (code_fits other key is_too from_too to_too) in
    let place = few_places first.first.rank in
    let place_too = few_places other.first.rank in
    let first_keys = is.keys in
    let other_keys = is_too.keys in
    elim (cases_order (place_of first.first.rank) (place_of other.first.rank)) [
      | inl same ↦ inr (same, later_last first other key is is_too from to from_too to_too (omega (arith, same, precedence)))
      | inr (inl better) ↦ inl better
      | inr (inr worse) ↦ absurd (omega arith)
    ]

-- ---- the last of the runs that contain a key
contained : (run : CodeRun) (key : ℕ) → run.range.start ≤ key → key ≤ run.range.end → contains (run_span run) key ≡ true
contained run key from to =
    let first : nat_le run.range.start key ≡ true = le-leb run.range.start key from in
    let last : nat_le key run.range.end ≡ true = le-leb key run.range.end to in
    λ i. first i && last i

pub within : (run : CodeRun) (key : ℕ) → contains (run_span run) key ≡ true → (run.range.start ≤ key) × (key ≤ run.range.end)
within run key has = grind (arith, nat_tests)

module _ (runs : List CodeRun) (key : ℕ) where
  -- the run, at an index after which no run contains the key
  pub record IsLastRun (run : CodeRun) : Type 0 where
    pub index : ℕ
    pub at : slice_get runs index ≡ Some run
    pub from : run.range.start ≤ key
    pub to : key ≤ run.range.end
    pub last : (other : ℕ) (o : CodeRun) → slice_get runs other ≡ Some o → o.range.start ≤ key → key ≤ o.range.end → other ≤ index

  span_at : (index : ℕ) (run : CodeRun) → slice_get runs index ≡ Some run → slice_get (map run_span runs) index ≡ Some (run_span run)
  span_at index run at = slice_get-map run_span runs index ∙ ap (option_map run_span) at

  last_found : (found : Option ℕ) (run : CodeRun) → IsLast (map run_span runs) key found → option_and_then (slice_get runs) found ≡ Some run → IsLastRun run
  last_found None run is at = absurd (none-some run at)
  last_found (Some index) run is at =
      let (here, last) = is in
      let span : run_span run ≡ here.0 = same_Some (run_span run) here.0 (sym (span_at index run at) ∙ here.1) in
      let inside = within run key (ap (λ s. contains s key) span ∙ here.2) in
      record {
        index = index;
        at = at;
        from = inside.0;
        to = inside.1;
        last = λ other o at_other from to. last other (run_span o, span_at other o at_other, contained o key from to);
      }

  pub last_run : (run : CodeRun) → last_of run_span runs key ≡ Some run → IsLastRun run
  last_run run is = last_found (last_index (map run_span runs) key) run (is_last (map run_span runs) key) is

  none_found : (found : Option ℕ) → IsLast (map run_span runs) key found → option_and_then (slice_get runs) found ≡ None → (index : ℕ) (run : CodeRun) → slice_get runs index ≡ Some run → run.range.start ≤ key → key ≤ run.range.end → ⊥
  none_found None is nothing index run at from to = is index (run_span run, span_at index run at, contained run key from to)
  none_found (Some last) is nothing index run at from to =
      let here = is.0 in
      none-some here.0 (sym (ap (option_map run_span) nothing) ∙ sym (slice_get-map run_span runs last) ∙ here.1)

  pub no_run : last_of run_span runs key ≡ None → (index : ℕ) (run : CodeRun) → slice_get runs index ≡ Some run → run.range.start ≤ key → key ≤ run.range.end → ⊥
  no_run is = none_found (last_index (map run_span runs) key) (is_last (map run_span runs) key) is

-- ---- a list in an order in which, of two runs that have a key, the later one gives the code that comes first by another order
module _ (place_in : CodeRun → ℕ) (IsBefore : Candidate → Candidate → Type 0) (before : (run other : CodeRun) (key : ℕ) → IsCodeRun run → IsCodeRun other → run.range.start ≤ key → key ≤ run.range.end → other.range.start ≤ key → key ≤ other.range.end → place_in other ≤ place_in run
    → IsBefore (candidate_of (code_at run key)) (candidate_of (code_at other key))) (runs sorted : List CodeRun) (are : All IsCodeRun sorted) (moved : IsPermutation runs sorted) (order : IsNonDecreasingBy place_in sorted) (key : ℕ) where
  -- a code that a run gives, by a run of the other list
  given : (from to : List CodeRun) (candidate : Candidate) → IsPermutation from to → Any (Gives key candidate) from → Any (Gives key candidate) to
  given from to candidate perm (k, run, lt, at, gives) = let (j, below, is) = Contains-permutation from to run perm (k, lt, at) in (j, run, below, is, gives)

  found : (last : Option CodeRun) → last_of run_span sorted key ≡ last → IsFirstBy IsBefore (λ candidate. Any (Gives key candidate) runs) (option_map candidate_of (option_map (λ run. code_at run key) last))
  found None none = λ candidate gives.
      let (k, run, lt, at, its) = given runs sorted candidate moved gives in
      no_run sorted key none k run (slice_get-get_or sorted k run lt ∙ ap Some at) its.0 its.1
  found (Some run) some =
      let last = last_run sorted key run some in
      let lt = slice_get_within sorted last.index run last.at in
      let here = get_or_from_slice_get sorted last.index run run last.at in (
        given sorted runs (candidate_of (code_at run key)) (IsPermutation-sym runs sorted moved) (last.index, run, lt, here, (last.from, last.to, refl)),
        λ other gives.
            let (k, its, below, at, gives_it) = given runs sorted other moved gives in
            let no_later : k ≤ last.index = last.last k its (slice_get-get_or sorted k its below ∙ ap Some at) gives_it.0 gives_it.1 in
            let is_run : IsCodeRun run = subst IsCodeRun here (are last.index run lt) in
            let is_other : IsCodeRun its = subst IsCodeRun at (are k its below) in
            let its_place : get_or sorted k run ≡ its = get_or_from_slice_get sorted k its run (slice_get-get_or sorted k its below ∙ ap Some at) in
            let places : place_in its ≤ place_in run = subst (λ r. place_in r ≤ place_in run) its_place (subst (λ r. place_in (get_or sorted k run) ≤ place_in r) here (order k last.index run no_later lt)) in
            subst (IsBefore (candidate_of (code_at run key))) (sym gives_it.2) (before run its key is_run is_other last.from last.to gives_it.0 gives_it.1 places),
      )

  pub are_found : IsFirstBy IsBefore (λ candidate. Any (Gives key candidate) runs) (option_map candidate_of (code_for sorted key))
  are_found = found (last_of run_span sorted key) refl

pub are_firsts : (runs firsts : List CodeRun) → All IsCodeRun firsts → IsPermutation runs firsts → IsNonDecreasingBy precedence_of firsts → AreFirsts runs firsts
are_firsts runs firsts are moved order = λ key. are_found precedence_of IsNoLater higher_first runs firsts are moved order key

pub are_lasts : (runs lasts : List CodeRun) → All IsCodeRun lasts → IsPermutation runs lasts → IsNonDecreasingBy lateness_of lasts → AreLasts runs lasts
are_lasts runs lasts are moved order = λ key.
    are_found lateness_of (λ last other. IsNotAfter other.bytes last.bytes) (λ run other key is is_too from to from_too to_too no_later. later_last other run key is_too is from_too to_too from to no_later) runs lasts are moved order key

-- ---- keys in a row that one run gives their codes, or none
module _ (keys : List CodeRun) (first last : ℕ) (le : first ≤ last) where
  key_stretch_of : (run : Option CodeRun) → All IsCodeRun keys → IsStretch run_span keys first last run → IsKeyStretch keys first (record { first = option_map (λ run. code_at run first) run; last = last })
  key_stretch_of None are same = record {
    within = le;
    codes = λ count to. ap (option_map (λ run. code_at run (first + count))) (same (first + count) (omega arith) to);
    fits = tt;
  }
  key_stretch_of (Some run) are same =
      let begin = last_run keys first run (same first (omega arith) le) in
      let end = last_run keys last run (same last le (omega arith)) in
      let from = begin.from in
      let to = end.to in
      let is : IsCodeRun run = subst IsCodeRun (get_or_from_slice_get keys begin.index run run begin.at) (are begin.index run (slice_get_within keys begin.index run begin.at)) in
      record {
        within = le;
        codes = λ count to.
            let number : run.first.code.number + (first + count - run.range.start) ≡ run.first.code.number + (first - run.range.start) + count = omega arith in
            ap (option_map (λ run. code_at run (first + count))) (same (first + count) (omega arith) to) ∙ ap (λ n. Some (record { code = record { number = n; len = run.first.code.len }; rank = run.first.rank })) number;
        fits = omega (arith, is.fits);
      }

  pub key_stretch : (run : Option CodeRun) (ranked : Option Ranked) → All IsCodeRun keys → IsStretch run_span keys first last run → ranked ≡ option_map (λ run. code_at run first) run → IsKeyStretch keys first (record { first = ranked; last = last })
  key_stretch run ranked are same is = subst (λ (ranked : Option Ranked). IsKeyStretch keys first (record { first = ranked; last = last })) (sym is) (key_stretch_of run are same)
