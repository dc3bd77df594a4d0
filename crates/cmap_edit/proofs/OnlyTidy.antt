-- Only one tidy list says what it says, and no list of rows without overlaps that says so is shorter.
use Rattle.std.proofs.Common.{◌≡◌, ℕ, suc, ◌+◌, ◌<◌, ◌≤◌, List, [], ◌∷◌, Option, Some, None, length, map, refl, sym, ap, ◌∙◌, inl, inr, arith}
use Rattle.std.specs.Prelude.{All, AllPairs, option_map, option_and_then, slice_get, if◌then◌else◌}
use Rattle.std.specs.Option.{option_or}
use Rattle.std.proofs.lemmas.Bool.{cases_lt}
use Rattle.std.proofs.lemmas.List.Elements.{All-cons, All-head, All-tail, All-weaker}
use Rattle.std.proofs.lemmas.Option.{same_Some}
use Rattle.cmap_runs.specs.Ranges.{Span, contains, last_index}
use Rattle.cmap_edit.specs.Tidy.{AreTidy, said}
use Rattle.cmap_edit.proofs.ListsSaid.{is_after, is_before, is_in}

-- what declarations of a kind keep: what one that goes past the end of another says of both makes the next one go on from the other; and a row is known by its codes and what it says of the first
pub record AreKnown {E X : Type 0} (span : E → Span) (at : E → ℕ → X) (IsRow : E → Type 0) (CouldBeOne : E → E → Type 0) : Type 0 where
  pub filled : (e : E) → IsRow e → (span e).start ≤ (span e).end
  pub grows : (x z later : E) → IsRow x → IsRow z → IsRow later → (span x).start ≤ (span z).start → (span z).start ≤ (span x).end → at x (span z).start ≡ at z (span z).start
      → (span x).end + 1 ≡ (span later).start → (span later).start ≤ (span z).end → at later (span later).start ≡ at z (span later).start → CouldBeOne x later
  pub same : (x y : E) → IsRow x → IsRow y → (span x).start ≡ (span y).start → (span x).end ≡ (span y).end → at x (span x).start ≡ at y (span x).start → x ≡ y

-- ---- a list of declarations of which the first comes before the others
pairs_head : {E : Type 0} (R : E → E → Type 0) (x : E) (xs : List E) → AllPairs R (x ∷ xs) → All (R x) xs
pairs_head R x xs pairs = λ k d lt. pairs 0 (suc k) d (omega arith) (omega arith)

pairs_tail : {E : Type 0} (R : E → E → Type 0) (x : E) (xs : List E) → AllPairs R (x ∷ xs) → AllPairs R xs
pairs_tail R x xs pairs = λ i j d lt within. pairs (suc i) (suc j) d (omega arith) (omega arith)

module _ {E X : Type 0} (span : E → Span) (at : E → ℕ → X) where
  -- all declarations begin after the code
  none_yet : (xs : List E) (code : ℕ) → All (λ e. code < (span e).start) xs → last_index (map span xs) code ≡ None
  none_yet [] code after = refl
  none_yet (x ∷ xs) code after =
      let rest = none_yet xs code (All-tail (λ e. code < (span e).start) x xs after) in
      let out = is_before (span x) code (All-head (λ e. code < (span e).start) x xs after) in
      rw (rest, out) refl

  said_none_yet : (xs : List E) (code : ℕ) → All (λ e. code < (span e).start) xs → said span at xs code ≡ None
  said_none_yet xs code after = ap (λ o. option_map (λ e. at e code) (option_and_then (slice_get xs) o)) (none_yet xs code after)

  passed_by : (x : E) (xs : List E) (code : ℕ) (o : Option ℕ)
      → option_map (λ e. at e code) (option_and_then (slice_get (x ∷ xs)) (option_or (option_map suc o) None)) ≡ option_map (λ e. at e code) (option_and_then (slice_get xs) o)
  passed_by x xs code None = refl
  passed_by x xs code (Some i) = refl

  -- of codes after the first one the others decide
  said_later : (x : E) (xs : List E) (code : ℕ) → (span x).end < code → said span at (x ∷ xs) code ≡ said span at xs code
  said_later x xs code after =
      ap (λ b. option_map (λ e. at e code) (option_and_then (slice_get (x ∷ xs)) (option_or (option_map suc (last_index (map span xs) code)) (if b then Some 0 else None)))) (is_after (span x) code after)
      ∙ passed_by x xs code (last_index (map span xs) code)

  -- of its codes it decides
  said_first : (x : E) (xs : List E) (code : ℕ) → (span x).start ≤ code → code ≤ (span x).end → All (λ e. (span x).end < (span e).start) xs → said span at (x ∷ xs) code ≡ Some (at x code)
  said_first x xs code from to apart =
      let none = none_yet xs code (All-weaker (λ e. (span x).end < (span e).start) (λ e. code < (span e).start) (λ e lt. omega arith) xs apart) in
      ap (λ o. option_map (λ e. at e code) (option_and_then (slice_get (x ∷ xs)) (option_or (option_map suc o) (if contains (span x) code then Some 0 else None)))) none
      ∙ ap (λ b. option_map (λ e. at e code) (option_and_then (slice_get (x ∷ xs)) (option_or (option_map suc None) (if b then Some 0 else None)))) (is_in (span x) code from to)

-- rows in order without overlaps, of codes below a limit
record AreRows {E : Type 0} (span : E → Span) (IsRow : E → Type 0) (limit : ℕ) (xs : List E) : Type 0 where
  rows : All IsRow xs
  apart : AllPairs (λ e later. (span e).end < (span later).start) xs
  below : All (λ e. (span e).end < limit) xs

module _ {E X : Type 0} (span : E → Span) (at : E → ℕ → X) (IsRow : E → Type 0) (CouldBeOne : E → E → Type 0) (known : AreKnown span at IsRow CouldBeOne) (limit : ℕ) where
  abbrev SayTheSame : ℕ → List E → List E → Type 0
  SayTheSame low xs ys = (code : ℕ) → low ≤ code → code < limit → said span at xs code ≡ said span at ys code

  rows_tail : (x : E) (xs : List E) → AreRows span IsRow limit (x ∷ xs) → AreRows span IsRow limit xs
  rows_tail x xs are = record {
    rows = All-tail IsRow x xs are.rows;
    apart = pairs_tail (λ e later. (span e).end < (span later).start) x xs are.apart;
    below = All-tail (λ e. (span e).end < limit) x xs are.below;
  }

  later_ones : (x : E) (xs : List E) → AreRows span IsRow limit (x ∷ xs) → All (λ e. (span x).end < (span e).start) xs
  later_ones x xs are = pairs_head (λ e later. (span e).end < (span later).start) x xs are.apart

  first_row : (x : E) (xs : List E) → AreRows span IsRow limit (x ∷ xs) → IsRow x
  first_row x xs are = All-head IsRow x xs are.rows

  first_filled : (x : E) (xs : List E) → AreRows span IsRow limit (x ∷ xs) → (span x).start ≤ (span x).end
  first_filled x xs are = known.filled x (first_row x xs are)

  first_below : (x : E) (xs : List E) → AreRows span IsRow limit (x ∷ xs) → (span x).end < limit
  first_below x xs are = All-head (λ e. (span e).end < limit) x xs are.below

  -- of its codes the first one decides, and before it nothing is said
  says_first : (x : E) (xs : List E) (code : ℕ) → AreRows span IsRow limit (x ∷ xs) → (span x).start ≤ code → code ≤ (span x).end → said span at (x ∷ xs) code ≡ Some (at x code)
  says_first x xs code are from to = said_first span at x xs code from to (later_ones x xs are)

  says_none : (x : E) (xs : List E) (code : ℕ) → AreRows span IsRow limit (x ∷ xs) → code < (span x).start → said span at (x ∷ xs) code ≡ None
  says_none x xs code are before =
      let filled = first_filled x xs are in
      said_none_yet span at (x ∷ xs) code
      (All-cons (λ e. code < (span e).start) x xs before (All-weaker (λ e. (span x).end < (span e).start) (λ e. code < (span e).start) (λ e lt. omega arith) xs (later_ones x xs are)))

  -- a row that begins among the codes of the first one of a tidy list ends with it at the latest, if both lists say the same
  ends_within : (low : ℕ) (x z : E) (xs zs : List E) → AreRows span IsRow limit (x ∷ xs) → All (λ e. CouldBeOne x e → ⊥) xs → AreRows span IsRow limit (z ∷ zs)
      → low ≤ (span z).start → (span x).start ≤ (span z).start → (span z).start ≤ (span x).end → SayTheSame low (x ∷ xs) (z ∷ zs) → (span z).end ≤ (span x).end
  ends_within low x z [] zs are apart were from after within same =
      elim (cases_lt (span x).end (span z).end) [
        | inr not_longer ↦ not_longer
        | inl longer ↦
            let next = (span x).end + 1 in
            let below = first_below z zs were in
            let theirs = says_first z zs next were (omega arith) (omega arith) in
            let ours = said_later span at x [] next (omega arith) in
            let both = same next (omega arith) (omega arith) in
            let nothing : None ≡ Some (at z next) = sym ours ∙ both ∙ theirs in
            absurd cc
      ]
  ends_within low x z (later ∷ xs) zs are apart were from after within same =
      elim (cases_lt (span x).end (span z).end) [
        | inr not_longer ↦ not_longer
        | inl longer ↦
            let next = (span x).end + 1 in
            let below = first_below z zs were in
            let theirs = says_first z zs next were (omega arith) (omega arith) in
            let ours = said_later span at x (later ∷ xs) next (omega arith) in
            let both = same next (omega arith) (omega arith) in
            let rest = rows_tail x (later ∷ xs) are in
            let filled = first_filled later xs rest in
            let begins = All-head (λ e. (span x).end < (span e).start) later xs (later_ones x (later ∷ xs) are) in
            elim (cases_lt next (span later).start) [
              | inl gap ↦
                  let nothing : None ≡ Some (at z next) = sym (says_none later xs next rest gap) ∙ sym ours ∙ both ∙ theirs in
                  absurd cc
              | inr meets ↦
                  let starts : (span later).start ≡ next = omega arith in
                  let here : at later next ≡ at z next = same_Some _ _ (sym (says_first later xs next rest (omega arith) (omega arith)) ∙ sym ours ∙ both ∙ theirs) in
                  let first : at x (span z).start ≡ at z (span z).start =
                  same_Some _ _ (sym (says_first x (later ∷ xs) (span z).start are after within) ∙ same (span z).start from (omega (arith, first_filled z zs were)) ∙ says_first z zs (span z).start were (omega arith) (first_filled z zs were)) in
                  absurd (All-head (λ e. CouldBeOne x e → ⊥) later xs apart
                  (known.grows x z later (first_row x (later ∷ xs) are) (first_row z zs were) (first_row later xs rest) after within first (sym starts) (omega arith) (rw starts here)))
            ]
      ]

  -- what both lists say from a code on, after the first one of each
  same_later : (low next : ℕ) (x z : E) (xs zs : List E) → SayTheSame low (x ∷ xs) (z ∷ zs) → low ≤ next → (span x).end < next → (span z).end < next → SayTheSame next xs zs
  same_later low next x z xs zs same from after after_too code later below =
      sym (said_later span at x xs code (omega arith)) ∙ same code (omega arith) below ∙ said_later span at z zs code (omega arith)

  same_later_one : (low next : ℕ) (z : E) (xs zs : List E) → SayTheSame low xs (z ∷ zs) → low ≤ next → (span z).end < next → SayTheSame next xs zs
  same_later_one low next z xs zs same from after code later below = same code (omega arith) below ∙ said_later span at z zs code (omega arith)

  ends_later : (x : E) (xs : List E) → AreRows span IsRow limit (x ∷ xs) → All (λ e. (span x).end + 1 ≤ (span e).end) xs
  ends_later x xs are = λ k d lt. omega (arith, later_ones x xs are k d lt, known.filled _ ((rows_tail x xs are).rows k d lt))

  starts_later : (x : E) (xs : List E) → AreRows span IsRow limit (x ∷ xs) → All (λ e. (span x).end + 1 ≤ (span e).start) xs
  starts_later x xs are = λ k d lt. omega (arith, later_ones x xs are k d lt)

  abbrev AreJoined : List E → Type 0
  AreJoined xs = AllPairs (λ e later. CouldBeOne e later → ⊥) xs

  -- from a code on, which the first declaration may begin before
  fewest_from : (low : ℕ) (xs zs : List E) → AreRows span IsRow limit xs → AreJoined xs → All (λ e. low ≤ (span e).end) xs
      → AreRows span IsRow limit zs → All (λ e. low ≤ (span e).start) zs → SayTheSame low xs zs → length xs ≤ length zs
  fewest_from low [] zs are joined ends were starts same = omega arith
  fewest_from low (x ∷ xs) [] are joined ends were starts same =
      let last = (span x).end in
      let filled = first_filled x xs are in
      let nothing : Some (at x last) ≡ None = sym (says_first x xs last are filled (omega arith)) ∙ same last (All-head (λ e. low ≤ (span e).end) x xs ends) (first_below x xs are) in
      absurd cc
  fewest_from low (x ∷ xs) (z ∷ zs) are joined ends were starts same =
      let filled = first_filled x xs are in let filled_too = first_filled z zs were in
      let below = first_below x xs are in let below_too = first_below z zs were in
      let from = All-head (λ e. low ≤ (span e).start) z zs starts in let to = All-head (λ e. low ≤ (span e).end) x xs ends in
      let after : (span x).start ≤ (span z).start =
      elim (cases_lt (span z).start (span x).start) [
        | inr after ↦ after
        | inl sooner ↦
            let nothing : None ≡ Some (at z (span z).start) =
            sym (says_none x xs (span z).start are sooner) ∙ same (span z).start from (omega arith) ∙ says_first z zs (span z).start were (omega arith) filled_too in
            absurd cc
      ]
      in
      let within : (span z).start ≤ (span x).end =
      elim (cases_lt (span x).end (span z).start) [
        | inr within ↦ within
        | inl past ↦
            let nothing : Some (at x (span x).end) ≡ None = sym (says_first x xs (span x).end are filled (omega arith)) ∙ same (span x).end to below ∙ says_none z zs (span x).end were past in
            absurd cc
      ]
      in
      let ends_soon = ends_within low x z xs zs are (pairs_head (λ e later. CouldBeOne e later → ⊥) x xs joined) were from after within same in
      elim (cases_lt (span z).end (span x).end) [
        | inl part ↦
            let fewer = fewest_from ((span z).end + 1) (x ∷ xs) zs are joined
            (All-cons (λ e. (span z).end + 1 ≤ (span e).end) x xs (omega arith) (All-weaker (λ e. (span x).end + 1 ≤ (span e).end) (λ e. (span z).end + 1 ≤ (span e).end) (λ e lt. omega arith) xs (ends_later x xs are)))
            (rows_tail z zs were) (starts_later z zs were) (same_later_one low ((span z).end + 1) z (x ∷ xs) zs same (omega arith) (omega arith)) in
            omega (arith, fewer)
        | inr whole ↦
            let next = (span z).end + 1 in
            let fewer = fewest_from next xs zs (rows_tail x xs are) (pairs_tail (λ e later. CouldBeOne e later → ⊥) x xs joined)
            (All-weaker (λ e. (span x).end + 1 ≤ (span e).end) (λ e. next ≤ (span e).end) (λ e le. omega arith) xs (ends_later x xs are))
            (rows_tail z zs were) (starts_later z zs were) (same_later low next x z xs zs same (omega arith) (omega arith) (omega arith)) in
            omega (arith, fewer)
      ]

  -- where the first of two tidy lists begins
  begins : (low : ℕ) (x y : E) (xs ys : List E) → AreRows span IsRow limit (x ∷ xs) → AreRows span IsRow limit (y ∷ ys) → low ≤ (span x).start → SayTheSame low (x ∷ xs) (y ∷ ys) → (span y).start ≤ (span x).start
  begins low x y xs ys are were from same =
      elim (cases_lt (span x).start (span y).start) [
        | inr after ↦ after
        | inl sooner ↦
            let filled = first_filled x xs are in let below = first_below x xs are in
            let nothing : Some (at x (span x).start) ≡ None = sym (says_first x xs (span x).start are (omega arith) filled) ∙ same (span x).start from (omega arith) ∙ says_none y ys (span x).start were sooner in
            absurd cc
      ]

  turned : (low : ℕ) (xs ys : List E) → SayTheSame low xs ys → SayTheSame low ys xs
  turned low xs ys same code from below = sym (same code from below)

  only_from : (low : ℕ) (xs ys : List E) → AreRows span IsRow limit xs → AreJoined xs → All (λ e. low ≤ (span e).start) xs
      → AreRows span IsRow limit ys → AreJoined ys → All (λ e. low ≤ (span e).start) ys → SayTheSame low xs ys → xs ≡ ys
  only_from low [] [] are joined from were joined_too from_too same = refl
  only_from low [] (y ∷ ys) are joined from were joined_too from_too same =
      let filled = first_filled y ys were in let below = first_below y ys were in
      let nothing : None ≡ Some (at y (span y).start) = same (span y).start (All-head (λ e. low ≤ (span e).start) y ys from_too) (omega arith) ∙ says_first y ys (span y).start were (omega arith) filled in
      absurd cc
  only_from low (x ∷ xs) [] are joined from were joined_too from_too same =
      let filled = first_filled x xs are in let below = first_below x xs are in
      let nothing : Some (at x (span x).start) ≡ None = sym (says_first x xs (span x).start are (omega arith) filled) ∙ same (span x).start (All-head (λ e. low ≤ (span e).start) x xs from) (omega arith) in
      absurd cc
  only_from low (x ∷ xs) (y ∷ ys) are joined from were joined_too from_too same =
      let filled = first_filled x xs are in let filled_too = first_filled y ys were in let below = first_below x xs are in
      let starts_from = All-head (λ e. low ≤ (span e).start) x xs from in let starts_from_too = All-head (λ e. low ≤ (span e).start) y ys from_too in
      let back = turned low (x ∷ xs) (y ∷ ys) same in
      let one = begins low x y xs ys are were starts_from same in let other = begins low y x ys xs were are starts_from_too back in
      let starts : (span x).start ≡ (span y).start = omega arith in
      let ends : (span x).end ≡ (span y).end =
      omega (
        arith,
        ends_within low x y xs ys are (pairs_head (λ e later. CouldBeOne e later → ⊥) x xs joined) were starts_from_too (omega arith) (omega arith) same,
        ends_within low y x ys xs were (pairs_head (λ e later. CouldBeOne e later → ⊥) y ys joined_too) are starts_from (omega arith) (omega arith) back,
      ) in
      let here : at x (span x).start ≡ at y (span x).start =
      same_Some _ _ (sym (says_first x xs (span x).start are (omega arith) filled) ∙ same (span x).start starts_from (omega arith) ∙ says_first y ys (span x).start were (omega arith) (omega arith)) in
      let is : x ≡ y = known.same x y (first_row x xs are) (first_row y ys were) starts ends here in
      let next = (span x).end + 1 in
      let rest : xs ≡ ys =
      only_from next xs ys (rows_tail x xs are) (pairs_tail (λ e later. CouldBeOne e later → ⊥) x xs joined) (starts_later x xs are)
      (rows_tail y ys were) (pairs_tail (λ e later. CouldBeOne e later → ⊥) y ys joined_too)
      (All-weaker (λ e. (span y).end + 1 ≤ (span e).start) (λ e. next ≤ (span e).start) (λ e le. omega arith) ys (starts_later y ys were))
      (same_later low next x y xs ys same (omega arith) (omega arith) (omega arith)) in
      λ i. is i ∷ rest i

  -- what is said of a code one of the rows says
  found_in : (xs : List E) (code : ℕ) (v : X) → AreRows span IsRow limit xs → said span at xs code ≡ Some v → (e : E) × IsRow e × ((span e).start ≤ code) × (code ≤ (span e).end) × (at e code ≡ v)
  found_in [] code v are is = absurd (let nothing : None ≡ Some v = is in cc)
  found_in (x ∷ xs) code v are is =
      elim (cases_lt code (span x).start) [
        | inl sooner ↦ absurd (let nothing : None ≡ Some v = sym (says_none x xs code are sooner) ∙ is in cc)
        | inr after ↦
            elim (cases_lt (span x).end code) [
              | inl past ↦ found_in xs code v (rows_tail x xs are) (sym (said_later span at x xs code past) ∙ is)
              | inr within ↦ (x, first_row x xs are, after, within, same_Some _ _ (sym (says_first x xs code are after within) ∙ is))
            ]
      ]

  pub found : (xs : List E) (code : ℕ) (v : X) → AreTidy span IsRow CouldBeOne xs → All (λ e. (span e).end < limit) xs → said span at xs code ≡ Some v
      → (e : E) × IsRow e × ((span e).start ≤ code) × (code ≤ (span e).end) × (at e code ≡ v)
  found xs code v tidy below is = found_in xs code v (record { rows = tidy.rows; apart = tidy.apart; below = below }) is

  -- the two that are stated of lists of declarations
  pub fewest : (xs zs : List E) → AreTidy span IsRow CouldBeOne xs → All (λ e. (span e).end < limit) xs → All IsRow zs → AllPairs (λ e later. (span e).end < (span later).start) zs → All (λ e. (span e).end < limit) zs
      → ((code : ℕ) → code < limit → said span at xs code ≡ said span at zs code) → length xs ≤ length zs
  fewest xs zs tidy below rows apart below_too same =
      fewest_from 0 xs zs (record { rows = tidy.rows; apart = tidy.apart; below = below }) tidy.joined (λ k d lt. omega arith) (record { rows = rows; apart = apart; below = below_too }) (λ k d lt. omega arith)
      (λ code from lt. same code lt)

  pub only_one : (xs ys : List E) → AreTidy span IsRow CouldBeOne xs → All (λ e. (span e).end < limit) xs → AreTidy span IsRow CouldBeOne ys → All (λ e. (span e).end < limit) ys
      → ((code : ℕ) → code < limit → said span at xs code ≡ said span at ys code) → xs ≡ ys
  only_one xs ys tidy below tidy_too below_too same =
      only_from 0 xs ys (record { rows = tidy.rows; apart = tidy.apart; below = below }) tidy.joined (λ k d lt. omega arith) (record { rows = tidy_too.rows; apart = tidy_too.apart; below = below_too }) tidy_too.joined (λ k d lt. omega arith)
      (λ code from lt. same code lt)
