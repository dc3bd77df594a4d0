-- The open indices tell which declaration decides a code.
use Rattle.std.proofs.Common.{◌≡◌, ℕ, ◌+◌, ◌<◌, ◌≤◌, ◌⊎◌, List, [], ◌∷◌, ◌++◌, length, get_or, take, Option, refl, ap, ◌∙◌, subst, inl, inr, arith}
use Rattle.std.specs.Prelude.{Some, None, All, slice_get}
use Rattle.std.specs.List.{Contains}
use Rattle.std.specs.List.Sorted.{IsPermutation}
use Rattle.std.proofs.lemmas.Bool.Decides.{nat_tests}
use Rattle.std.proofs.lemmas.Bool.{cases_lt}
use Rattle.std.proofs.lemmas.List.Elements.{All-contains, All-push, Contains-append_cases, Contains-append_right, Contains-push_cases}
use Rattle.std.proofs.lemmas.List.Sorted.{Contains-permutation, IsPermutation-sym}
use Rattle.std.proofs.lemmas.List.{get_or-take, length-take}
use Rattle.cmap_runs.specs.DeclaredRanges.{IsRange, AreRanges}
use Rattle.cmap_runs.specs.OpenRanges.{IsCovered, IsGreatest, Opens, StayOpen, AreOpen}
use Rattle.cmap_runs.specs.Ranges.{Span, Run, AreRunsBelow, joined, last_index}
use Rattle.cmap_runs.proofs.LastIndex.{ContainsAt, IsLast, is_last}
use Rattle.cmap_runs.proofs.MaximalRuns.{AreRunsBelow-gap, AreRunsBelow-joined}
use Rattle.cmap_runs.proofs.RangesDecide.{holding_range}

-- the greatest open index of all decides, where its range doesn't end before the code
greatest_decides : (before now : List (ℕ × ℕ)) (from code index last : ℕ) (o : Option ℕ)
    → IsGreatest before code o → StayOpen before now from → from ≤ code → code ≤ last → Contains now (index, last)
    → All (λ other. other.0 ≤ index) now → o ≡ Some index
greatest_decides before now from code index last None greatest stay low high is above = absurd (omega (arith, greatest index last (stay.no_more index last is)))
greatest_decides before now from code index last (Some decided) greatest stay low high is above =
    let reaches = greatest.0.0 in
    elim (stay.kept decided reaches greatest.0.1) [
      | inl ended ↦ absurd (omega (arith, greatest.0.2))
      | inr ends ↦
          let same : decided ≡ index = omega (arith, All-contains (λ other. other.0 ≤ index) now (decided, reaches) above ends, greatest.1 index last (stay.no_more index last is) high) in
          ap Some same
    ]

none_decides : (before now : List (ℕ × ℕ)) (from code : ℕ) (o : Option ℕ)
    → IsGreatest before code o → StayOpen before now from → from ≤ code → length now ≡ 0 → o ≡ None
none_decides before now from code None greatest stay low none = refl
none_decides before now from code (Some decided) greatest stay low none =
    elim (stay.kept decided greatest.0.0 greatest.0.1) [ inl ended ↦ absurd (omega (arith, greatest.0.2)) | inr ends ↦ absurd (omega (arith, ends.1)) ]

-- so codes that one index decides make one run
pub AreRunsBelow-greatest : {before now : List (ℕ × ℕ)} {decides : ℕ → Option ℕ} {from : ℕ} {runs : List Run} (start to end index last : ℕ)
    → ((code : ℕ) → start ≤ code → code < to → IsGreatest before code (decides code)) → StayOpen before now from → start ≤ from
    → Contains now (index, last) → All (λ other. other.0 ≤ index) now
    → from ≤ end → end < to → end ≤ last → AreRunsBelow decides from runs
    → AreRunsBelow decides (end + 1) (joined runs (record { low = from; high = end; index = index }))
AreRunsBelow-greatest {before} {now} {decides} {from} {runs} start to end index last greatest stay begun is above filled below reaches are =
    AreRunsBelow-joined decides runs (record { low = from; high = end; index = index }) are filled (λ code low high.
    greatest_decides before now from code index last (decides code) (greatest code (omega arith) (omega arith)) stay low (omega arith) is above)

pub AreRunsBelow-none_open : {before now : List (ℕ × ℕ)} {decides : ℕ → Option ℕ} {from : ℕ} {runs : List Run} (start to : ℕ)
    → ((code : ℕ) → start ≤ code → code < to → IsGreatest before code (decides code)) → StayOpen before now from → start ≤ from → from ≤ to
    → length now ≡ 0 → AreRunsBelow decides from runs → AreRunsBelow decides to runs
AreRunsBelow-none_open {before} {now} {decides} {from} {runs} start to greatest stay begun le none are =
    AreRunsBelow-gap decides from to runs are le (λ code low high. none_decides before now from code (decides code) (greatest code (omega arith) high) stay low none)

-- ---- a range is closed, or opened
first_or_later : (first x : ℕ × ℕ) (rest : List (ℕ × ℕ)) → Contains (first ∷ rest) x → (first ≡ x) ⊎ Contains rest x
first_or_later first x rest at =
    elim (Contains-append_cases (first ∷ []) rest x at) [
      | inr later ↦ inr later
      | inl here ↦ elim (Contains-push_cases [] first x here) [ inr is ↦ inl is | inl none ↦ absurd (omega (arith, none.1)) ]
    ]

pub StayOpen-same : (ends : List (ℕ × ℕ)) (code : ℕ) → StayOpen ends ends code
StayOpen-same ends code = record { kept = λ index last at. inr at; no_more = λ index last at. at }

pub StayOpen-later : {before now : List (ℕ × ℕ)} {from to : ℕ} → StayOpen before now from → from ≤ to → StayOpen before now to
StayOpen-later stay le = record {
  kept = λ index last at. elim (stay.kept index last at) [ inl ended ↦ inl (omega arith) | inr left ↦ inr left ];
  no_more = stay.no_more;
}

pub StayOpen-close : {before now after : List (ℕ × ℕ)} {from : ℕ} (to index last : ℕ)
    → StayOpen before now from → IsPermutation now ((index, last) ∷ after) → last < to → from ≤ to → StayOpen before after to
StayOpen-close {before} {now} {after} to index last stay closed ended le = record {
  kept = λ other reaches at.
      elim (stay.kept other reaches at) [
        | inl before_from ↦ inl (omega arith)
        | inr ends ↦
            elim (first_or_later (index, last) (other, reaches) after (Contains-permutation now ((index, last) ∷ after) (other, reaches) closed ends)) [
              | inl is ↦ inl (omega (arith, ap (λ (o : ℕ × ℕ). o.1) is))
              | inr left ↦ inr left
            ]
      ];
  no_more = λ other reaches at.
      stay.no_more other reaches (Contains-permutation ((index, last) ∷ after) now (other, reaches) (IsPermutation-sym now ((index, last) ∷ after) closed)
      (Contains-append_right ((index, last) ∷ []) after (other, reaches) at));
}

-- ---- the open indices at a code
contains_open : (spans : List Span) (begun : List Run) (ends : List (ℕ × ℕ)) (from code index last : ℕ)
    → AreOpen spans begun ends from → from ≤ code → code ≤ last → Contains ends (index, last) → ContainsAt spans code index
contains_open spans begun ends from code index last opened low high is =
    let at = opened.no_more index last is in (record { start = at.0; end = last }, at.2, grind (arith, nat_tests, at.1))

greatest_open : (spans : List Span) (ranges : List Run) (i from to code : ℕ) (ends : List (ℕ × ℕ)) (o : Option ℕ)
    → AreRanges spans (length spans) ranges → AreOpen spans (take i ranges) ends from
    → ((k : ℕ) (d : Run) → i ≤ k → k < length ranges → to ≤ (get_or ranges k d).low)
    → from ≤ code → code < to → IsLast spans code o → IsGreatest ends code o
greatest_open spans ranges i from to code ends None are opened later low high last = λ index reaches is.
    elim (cases_lt reaches code) [ inl ended ↦ ended | inr holds ↦ absurd (last index (contains_open spans (take i ranges) ends from code index reaches opened low holds is)) ]
greatest_open spans ranges i from to code ends (Some index) are opened later low high last =
    let found = holding_range spans ranges code index are last.0 in let range = found.1 in
    let is_begun : found.0 < i =
    elim (cases_lt found.0 i) [
      | inl lt ↦ lt
      | inr after ↦ absurd (omega (arith, later found.0 range after found.2, found.4.0.0, ap (λ (r : Run). r.low) found.3))
    ]
    in
    let kept = subst (λ (r : Run). (r.high < from) ⊎ IsCovered ends r) (get_or-take i ranges found.0 range is_begun ∙ found.3) (opened.kept found.0 range (omega (arith, length-take i ranges, found.2))) in
    elim kept [
      | inl ended ↦ absurd (omega (arith, found.4.0.1))
      | inr covered ↦
          let over = covered.0 in let reaches = covered.1 in
          let to_code : code ≤ reaches = omega (arith, covered.4, found.4.0.1) in
          let same : over ≡ index = omega (arith, found.4.1, covered.3, last.1 over (contains_open spans (take i ranges) ends from code over reaches opened low to_code covered.2)) in (
            (reaches, subst (λ n. Contains ends (n, reaches)) same covered.2, to_code),
            λ other reaches is to_code. last.1 other (contains_open spans (take i ranges) ends from code other reaches opened low to_code is),
          )
    ]

pub decides_open : {spans : List Span} {ranges : List Run} {from : ℕ} {ends : List (ℕ × ℕ)} (i to : ℕ)
    → AreRanges spans (length spans) ranges → AreOpen spans (take i ranges) ends from
    → ((k : ℕ) (d : Run) → i ≤ k → k < length ranges → to ≤ (get_or ranges k d).low)
    → (code : ℕ) → from ≤ code → code < to → IsGreatest ends code (last_index spans code)
decides_open {spans} {ranges} {from} {ends} i to are opened later code low high =
    greatest_open spans ranges i from to code ends (last_index spans code) are opened later low high (is_last spans code)

-- ---- one more range has begun
covered_more : (before after : List (ℕ × ℕ)) (range old : Run) → Opens before after range → IsCovered before old → IsCovered after old
covered_more before after range old opens covered = (covered.0, covered.1, opens.kept covered.0 covered.1 covered.2, covered.3, covered.4)

covered_still : (before now : List (ℕ × ℕ)) (code : ℕ) (old : Run) → StayOpen before now code → IsCovered before old → (old.high < code) ⊎ IsCovered now old
covered_still before now code old stay covered =
    elim (stay.kept covered.0 covered.1 covered.2) [ inl ended ↦ inl (omega (arith, covered.4)) | inr open_still ↦ inr (covered.0, covered.1, open_still, covered.3, covered.4) ]

pub AreOpen-push : {spans : List Span} {begun : List Run} {before now after : List (ℕ × ℕ)} {from : ℕ} (range : Run) (code : ℕ)
    → AreOpen spans begun before from → from ≤ code → StayOpen before now code → IsRange spans range → range.low ≤ code
    → Opens now after range → AreOpen spans (begun ++ range ∷ []) after code
AreOpen-push {spans} {begun} {before} {now} {after} range code opened le stay is low opens = record {
  kept = All-push (λ (r : Run). (r.high < code) ⊎ IsCovered after r) begun range
      (λ k d lt.
      elim (opened.kept k d lt) [
        | inl ended ↦ inl (omega arith)
        | inr was ↦ elim (covered_still before now code (get_or begun k d) stay was) [ inl ended ↦ inl ended | inr covered ↦ inr (covered_more now after range (get_or begun k d) opens covered) ]
      ])
      (inr opens.covered);
  no_more = λ index last at.
      elim (opens.no_more index last at) [
        | inl same ↦ (range.low, low, subst (λ (o : ℕ × ℕ). slice_get spans o.0 ≡ Some (record { start = range.low; end = o.1 })) same is.at_index)
        | inr was ↦ let old = opened.no_more index last (stay.no_more index last was) in (old.0, omega (arith, old.1), old.2)
      ];
}

pub Opens-push : (before after : List (ℕ × ℕ)) (range : Run) → IsPermutation ((range.index, range.high) ∷ before) after → Opens before after range
Opens-push before after range moved =
    let first : ℕ × ℕ = (range.index, range.high) in
    record {
      covered = (range.index, range.high, Contains-permutation (first ∷ before) after first moved (0, omega arith, refl), omega arith, omega arith);
      kept = λ index last at. Contains-permutation (first ∷ before) after (index, last) moved (Contains-append_right (first ∷ []) before (index, last) at);
      no_more = λ index last at. first_or_later first (index, last) before (Contains-permutation after (first ∷ before) (index, last) (IsPermutation-sym (first ∷ before) after moved) at);
    }

-- nothing is open before the first range
pub AreOpen-none : (spans : List Span) (code : ℕ) → AreOpen spans [] [] code
AreOpen-none spans code = record { kept = λ k d lt. absurd (omega arith); no_more = λ index last has. absurd (omega (arith, has.1)) }
